use Rattle.std.proofs.Common.{[]}
use Rattle.std.proofs.lemmas.Result.{err_from_is_err_and}
use Rattle.node_wire.specs.Reading.{each_at, update_op_at}
use Rattle.node_wire.proofs.Turns.{each_more, each_end, each_refused}
use Rattle.node_wire.proofs.operations.read_each_update_op.Goals as goal

pub returns-in_err-op : goal.returns-in_err-op
returns-in_err-op c =
    let p = err_from_is_err_and c.from_residual.result c.from_residual.ensures.1 in
    rw (p.1, p.2) (each_refused (update_op_at c.args.end) c.args.count c.loop.counter
    c.loop.ops.items c.loop.rest.now c.in_err-op.field-0.0 (each_at (update_op_at c.args.end)
    c.args.count [] c.args.bytes.now) c.loop-test.true c.in_err-op.ensures c.loop.invariant)

pub loop-preserved : goal.loop-preserved
loop-preserved c =
    rw c.in_ok-push.ensures.items (each_more (update_op_at c.args.end) c.args.count
    c.loop.counter c.loop.ops.items c.loop.rest.now c.in_ok-op.after.now c.in_ok-op.op
    (each_at (update_op_at c.args.end) c.args.count [] c.args.bytes.now) c.loop-test.true
    c.in_ok-op.ensures c.loop.invariant)

pub returns : goal.returns
returns c = each_end (update_op_at c.args.end) c.args.count c.loop.counter c.loop.ops.items
    c.loop.rest.now (each_at (update_op_at c.args.end) c.args.count [] c.args.bytes.now)
    c.loop-test.false c.loop.invariant
