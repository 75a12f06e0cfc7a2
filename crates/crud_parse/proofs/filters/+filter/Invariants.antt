use Rattle.std.proofs.Common.{◌≡◌, [], drop}
use Rattle.bson_core.specs.declared.value.Value.TheViews.{out-Value}
use Rattle.crud_parse.specs.Results.{each, with_front}
use Rattle.crud_parse.specs.Filters.{inner_by, element_by, filter_of}
use Rattle.crud_parse.proofs.filters.+filter.Given as goal

abbrev pub invariant-read_all_inner-loop-value : goal.invariant-read_all_inner-loop-value
invariant-read_all_inner-loop-value l = with_front l.filters.items
    (each (λ value. inner_by filter_of l.name (out-Value value)) (drop l.value-index l.values))
    ≡ with_front [] (each (λ value. inner_by filter_of l.name (out-Value value)) l.values)

abbrev pub invariant-read_elements-loop-name : goal.invariant-read_elements-loop-name
invariant-read_elements-loop-name l = with_front l.filters.items (each (element_by filter_of)
    (drop l.name-index l.fields)) ≡ with_front [] (each (element_by filter_of) l.fields)
