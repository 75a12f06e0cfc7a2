use Rattle.std.proofs.Common.{◌≡◌, ◌++◌}
use Rattle.txn_types.specs.Order.{lsid_cmp}
use Rattle.txn_semantics.specs.Keyed.{Rises}
use Rattle.participant.proofs.lives.Lives.copy.Given as goal

abbrev pub invariant-loop-key : goal.invariant-loop-key
invariant-loop-key l = Rises lsid_cmp (l.copy ++ l.key-iterator)
    × (l.copy ++ l.key-iterator ≡ l.self)
