use Rattle.std.proofs.Common.{◌≡◌, ◌++◌, List, drop, map, option_map}
use Rattle.txn_types.specs.declared.id.Id.{Id}
use Rattle.txn_types.specs.declared.operation.UpdateItem.{UpdateItem}
use Rattle.txn_semantics.specs.Touched.{id_test, joined_tests}
use Rattle.participant.proofs.touching.updated.Given as goal

abbrev pub invariant-loop-item : goal.invariant-loop-item
invariant-loop-item l =
    option_map (λ (others : List Id). l.all.items ++ others) (joined_tests
    (map (λ (item : UpdateItem). id_test item.filter) (drop l.item-index l.items)))
    ≡ joined_tests (map (λ (item : UpdateItem). id_test item.filter) l.items)
