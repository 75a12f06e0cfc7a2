use Rattle.std.proofs.Common.{◌≡◌, take}
use Rattle.txn_types.proofs.operation.copy_update_items.Given as goal

abbrev pub invariant-loop-item : goal.invariant-loop-item
invariant-loop-item l = l.copy.items ≡ take l.item-index l.item-items
