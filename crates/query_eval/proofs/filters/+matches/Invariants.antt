use Rattle.std.proofs.Common.{◌≡◌, drop}
use Rattle.std.specs.List.{list_any, list_all}
use Rattle.txn_semantics.specs.Filters.{matches}
use Rattle.query_eval.proofs.filters.+matches.Given as goal

abbrev pub invariant-all_match-loop-filter : goal.invariant-all_match-loop-filter
invariant-all_match-loop-filter l = list_all (λ filter. matches filter l.doc) (drop l.filter-index
    l.filters) ≡ list_all (λ filter. matches filter l.doc) l.filters

abbrev pub invariant-some_match-loop-filter : goal.invariant-some_match-loop-filter
invariant-some_match-loop-filter l = list_any (λ filter. matches filter l.doc) (drop l.filter-index
    l.filters) ≡ list_any (λ filter. matches filter l.doc) l.filters
