-- What belongs to a write: a document that is put stands under its own id.
use Rattle.std.specs.Prelude.{◌≡◌, List, [], ◌∷◌, Some}
use Rattle.txn_types.specs.Ids.{id_in}
use Rattle.txn_types.specs.declared.write.Write.{Write}
use Rattle.txn_types.specs.declared.write.Write.TheVariants.{Put, Delete}

abbrev pub HasOwnId : Write → Type 0
HasOwnId (Put ns id doc) = id_in doc ≡ Some id
HasOwnId (Delete ns id) = Unit {0}

abbrev pub AllHaveOwnIds : List Write → Type 0
AllHaveOwnIds [] = Unit {0}
AllHaveOwnIds (write ∷ writes) = HasOwnId write × AllHaveOwnIds writes
