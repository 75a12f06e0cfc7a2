use Rattle.std.proofs.Common.{◌≡◌, drop}
use Rattle.std.specs.List.{list_any}
use Rattle.txn_semantics.specs.Filters.{compares}
use Rattle.query_eval.specs.Wanted.{wanted}
use Rattle.query_eval.proofs.filters.any_compares.Given as goal

abbrev pub invariant-loop-candidate : goal.invariant-loop-candidate
invariant-loop-candidate l = list_any (compares (wanted l.cmp) l.value) (drop l.candidate-index
    l.candidates) ≡ list_any (compares (wanted l.cmp) l.value) l.candidates
