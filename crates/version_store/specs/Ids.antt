-- Each document stands under its own id: the key's id is its `_id`.
use Rattle.std.specs.Prelude.{◌≡◌, List, [], ◌∷◌, Option, Some, None}
use Rattle.bson_core.specs.Fields.{Document}
use Rattle.txn_types.specs.Ids.{id_in}
use Rattle.txn_types.specs.declared.id.Id.{Id}
use Rattle.version_store.specs.declared.version.Version.{Version}
use Rattle.version_store.specs.Versions.{Versions}

-- a document, where there is one, has this id
abbrev pub HasId : Id → Option Document → Type 0
HasId id None = Unit {0}
HasId id (Some doc) = id_in doc ≡ Some id

-- so the document of a version, where there is one
abbrev pub HoldsId : Id → Option Version → Type 0
HoldsId id None = Unit {0}
HoldsId id (Some version) = HasId id version.doc

-- so those of all versions
abbrev pub HaveId : Id → List Version → Type 0
HaveId id [] = Unit {0}
HaveId id (version ∷ versions) = HasId id version.doc × HaveId id versions

-- so those under each key
abbrev pub HaveIds : Versions → Type 0
HaveIds [] = Unit {0}
HaveIds (key ∷ store) = HaveId key.0.1 key.1 × HaveIds store
