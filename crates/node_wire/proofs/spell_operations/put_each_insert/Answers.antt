use Rattle.std.proofs.Common.{ap, ◌∙◌}
use Rattle.txn_types.specs.declared.operation.InsertItem.{InsertItem}
use Rattle.node_wire.specs.Spelling.{insert_item_bytes}
use Rattle.node_wire.specs.Output.{joined}
use Rattle.node_wire.proofs.Joined.{each_goes_on, each_ends}
use Rattle.node_wire.proofs.spell_operations.put_each_insert.Goals as goal

pub loop-item-preserved : goal.loop-item-preserved
loop-item-preserved c =
    each_goes_on insert_item_bytes c.args.items.now c.loop-item.item-index c.item-item.result
    c.loop-item.out _ _ c.loop-item-test.true c.loop-item.invariant
    (c.in_ok-put_insert_item.ensures
    ∙ ap (λ (y : InsertItem). joined c.loop-item.out (insert_item_bytes y)) c.item-item.is)

pub returns : goal.returns
returns c = each_ends insert_item_bytes c.args.items.now c.loop-item.item-index _ _
    c.loop-item-test.false c.loop-item.invariant
