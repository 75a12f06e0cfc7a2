use Rattle.std.proofs.Common.{ap, ◌∙◌}
use Rattle.txn_types.specs.declared.update.UpdateOp.{UpdateOp}
use Rattle.node_wire.specs.Spelling.{update_op_bytes}
use Rattle.node_wire.specs.Output.{joined}
use Rattle.node_wire.proofs.Joined.{each_goes_on, each_ends}
use Rattle.node_wire.proofs.spell_operations.put_each_update_op.Goals as goal

pub loop-op-preserved : goal.loop-op-preserved
loop-op-preserved c =
    each_goes_on update_op_bytes c.args.ops.now c.loop-op.op-index c.op-item.result c.loop-op.out _
    _ c.loop-op-test.true c.loop-op.invariant
    (c.in_ok-put_update_op.ensures
    ∙ ap (λ (y : UpdateOp). joined c.loop-op.out (update_op_bytes y)) c.op-item.is)

pub returns : goal.returns
returns c = each_ends update_op_bytes c.args.ops.now c.loop-op.op-index _ _ c.loop-op-test.false
    c.loop-op.invariant
