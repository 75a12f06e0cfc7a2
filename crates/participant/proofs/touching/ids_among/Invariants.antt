use Rattle.std.proofs.Common.{◌≡◌, ◌++◌, drop}
use Rattle.txn_semantics.specs.Touched.{ids_among}
use Rattle.participant.proofs.touching.ids_among.Given as goal

abbrev pub invariant-loop-value : goal.invariant-loop-value
invariant-loop-value l = l.ids.items ++ ids_among (drop l.value-index l.values) ≡ ids_among l.values
