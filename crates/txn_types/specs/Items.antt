-- What belongs to the items of an operation: a document to insert has an id.
use Rattle.std.specs.Prelude.{List, [], ◌∷◌, IsSome}
use Rattle.txn_types.specs.Ids.{id_in}
use Rattle.txn_types.specs.declared.operation.InsertItem.{InsertItem}

abbrev pub AllHaveIds : List InsertItem → Type 0
AllHaveIds [] = Unit {0}
AllHaveIds (item ∷ items) = IsSome (id_in item.doc) × AllHaveIds items
