-- What holds of all items, or of all writes, holds with one more after them.
use Rattle.std.proofs.Common.{List, [], ◌∷◌, ◌++◌, IsSome}
use Rattle.txn_types.specs.Ids.{id_in}
use Rattle.txn_types.specs.Items.{AllHaveIds}
use Rattle.txn_types.specs.Writes.{HasOwnId, AllHaveOwnIds}
use Rattle.txn_types.specs.declared.operation.InsertItem.{InsertItem}
use Rattle.txn_types.specs.declared.write.Write.{Write}

pub ids_more : (items : List InsertItem) (item : InsertItem) → AllHaveIds items
    → IsSome (id_in item.doc) → AllHaveIds (items ++ item ∷ [])
ids_more [] item all here = (here, tt)
ids_more (first ∷ items) item all here = (all.0, ids_more items item all.1 here)

pub kept_more : (writes : List Write) (write : Write) → AllHaveOwnIds writes → HasOwnId write
    → AllHaveOwnIds (writes ++ write ∷ [])
kept_more [] write all here = (here, tt)
kept_more (first ∷ writes) write all here = (all.0, kept_more writes write all.1 here)
