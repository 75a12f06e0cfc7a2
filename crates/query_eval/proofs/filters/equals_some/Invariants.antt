use Rattle.std.proofs.Common.{◌≡◌, drop}
use Rattle.std.specs.List.{list_any}
use Rattle.txn_semantics.specs.Filters.{equals}
use Rattle.query_eval.proofs.filters.equals_some.Given as goal

abbrev pub invariant-loop-value : goal.invariant-loop-value
invariant-loop-value l = list_any (λ value. equals l.name value l.doc) (drop l.value-index l.values)
    ≡ list_any (λ value. equals l.name value l.doc) l.values
