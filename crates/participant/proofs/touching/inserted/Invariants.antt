use Rattle.std.proofs.Common.{◌≡◌, ◌++◌, drop}
use Rattle.std.specs.List.{filter_map}
use Rattle.txn_types.specs.Ids.{id_in}
use Rattle.txn_types.specs.declared.operation.InsertItem.{InsertItem}
use Rattle.participant.proofs.touching.inserted.Given as goal

abbrev pub invariant-loop-item : goal.invariant-loop-item
invariant-loop-item l = l.ids.items ++ filter_map (λ (item : InsertItem). id_in item.doc)
    (drop l.item-index l.items) ≡ filter_map (λ (item : InsertItem). id_in item.doc) l.items
