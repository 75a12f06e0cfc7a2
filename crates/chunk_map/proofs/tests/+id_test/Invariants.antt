use Rattle.std.proofs.Common.{◌≡◌, drop, map}
use Rattle.txn_semantics.specs.Touched.{first_some, id_test}
use Rattle.chunk_map.proofs.tests.+id_test.Given as goal

abbrev pub invariant-first_test-loop-filter : goal.invariant-first_test-loop-filter
invariant-first_test-loop-filter l =
    first_some (map id_test (drop l.filter-index l.filters)) ≡ first_some (map id_test l.filters)
