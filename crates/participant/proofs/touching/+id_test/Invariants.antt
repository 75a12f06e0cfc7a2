use Rattle.std.proofs.Common.{◌≡◌, map, drop}
use Rattle.txn_semantics.specs.Touched.{id_test, first_some}
use Rattle.participant.proofs.touching.+id_test.Given as goal

abbrev pub invariant-first_test-loop-filter : goal.invariant-first_test-loop-filter
invariant-first_test-loop-filter l =
    first_some (map id_test (drop l.filter-index l.filters)) ≡ first_some (map id_test l.filters)
