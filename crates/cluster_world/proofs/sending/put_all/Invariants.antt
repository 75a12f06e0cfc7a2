use Rattle.std.proofs.Common.{◌≡◌, ◌++◌, drop}
use Rattle.cluster_world.proofs.sending.put_all.Given as goal

abbrev pub invariant-loop-envelope : goal.invariant-loop-envelope
invariant-loop-envelope l =
    l.sent.items ++ drop l.envelope-index l.out ≡ l.initial.sent.items ++ l.out
