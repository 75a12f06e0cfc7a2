use Rattle.std.proofs.Common.{ap, ◌∙◌}
use Rattle.txn_types.specs.declared.filter.Filter.{Filter}
use Rattle.node_wire.specs.Spelling.{filter_bytes}
use Rattle.node_wire.specs.Output.{joined}
use Rattle.node_wire.proofs.Joined.{each_goes_on, each_ends}
use Rattle.node_wire.proofs.spell_filters.+put_filter.Goals as goal

pub put_each_filter-loop-filter-preserved : goal.put_each_filter-loop-filter-preserved
put_each_filter-loop-filter-preserved t c =
    each_goes_on filter_bytes c.args.filters.now c.loop-filter.filter-index c.filter-item.result
    c.loop-filter.out _ _ c.loop-filter-test.true c.loop-filter.invariant
    (c.in_ok-put_filter.ensures
    ∙ ap (λ (y : Filter). joined c.loop-filter.out (filter_bytes y)) c.filter-item.is)

pub put_each_filter-returns : goal.put_each_filter-returns
put_each_filter-returns t c = each_ends filter_bytes c.args.filters.now c.loop-filter.filter-index _
    _ c.loop-filter-test.false c.loop-filter.invariant
