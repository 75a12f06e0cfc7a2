use Rattle.std.proofs.Common.{◌≡◌, ◌++◌, drop}
use Rattle.txn_model.proofs.gathering.put_all.Given as goal

abbrev pub invariant-loop-write : goal.invariant-loop-write
invariant-loop-write l = l.writes ++ drop l.write-index l.more ≡ l.initial.writes ++ l.more
