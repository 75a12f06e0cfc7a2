use Rattle.std.proofs.Common.{[]}
use Rattle.std.proofs.lemmas.Result.{err_from_is_err_and}
use Rattle.node_wire.specs.Reading.{each_at, filter_at}
use Rattle.node_wire.proofs.Turns.{each_more, each_end, each_refused}
use Rattle.node_wire.proofs.filters.+filter.Goals as goal

pub read_each_filter-returns-in_err-filter : goal.read_each_filter-returns-in_err-filter
read_each_filter-returns-in_err-filter t c =
    let p = err_from_is_err_and c.from_residual.result c.from_residual.ensures.1 in
    rw (p.1, p.2) (each_refused (filter_at c.args.levels c.args.end) c.args.count
    c.loop.counter c.loop.filters.items c.loop.rest.now c.in_err-filter.field-0.0
    (each_at (filter_at c.args.levels c.args.end) c.args.count [] c.args.bytes.now)
    c.loop-test.true c.in_err-filter.ensures c.loop.invariant)

pub read_each_filter-loop-preserved : goal.read_each_filter-loop-preserved
read_each_filter-loop-preserved t c =
    rw c.in_ok-push.ensures.items (each_more (filter_at c.args.levels c.args.end) c.args.count
    c.loop.counter c.loop.filters.items c.loop.rest.now c.in_ok-filter.after.now
    c.in_ok-filter.filter (each_at (filter_at c.args.levels c.args.end) c.args.count []
    c.args.bytes.now) c.loop-test.true c.in_ok-filter.ensures c.loop.invariant)

pub read_each_filter-returns : goal.read_each_filter-returns
read_each_filter-returns t c = each_end (filter_at c.args.levels c.args.end) c.args.count
    c.loop.counter c.loop.filters.items c.loop.rest.now (each_at (filter_at c.args.levels
    c.args.end) c.args.count [] c.args.bytes.now) c.loop-test.false c.loop.invariant
