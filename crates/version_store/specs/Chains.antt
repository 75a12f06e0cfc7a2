-- The versions of one document as a store keeps them, and the documents of one namespace.
use Rattle.std.specs.Prelude.{◌≡◌, ℕ, Bool, true, false, List, [], ◌∷◌, map, filter, is_some}
use Rattle.std.specs.Prelude.{unwrap_or, Option, Some, None, if◌then◌else◌}
use Rattle.std.specs.Map.{lookup}
use Rattle.std.specs.BTreeMap.{is_at}
use Rattle.std.specs.Cmp.Lexicographic.{slice_cmp}
use Rattle.std.specs.Ordering.{is_eq, nat_cmp}
use Rattle.std.specs.declared.cmp.Ordering.{Ordering}
use Rattle.bson_core.specs.Fields.{Document}
use Rattle.txn_types.specs.Order.{id_cmp}
use Rattle.txn_types.specs.declared.id.Id.{Id}
use Rattle.txn_types.specs.declared.names.Tag.{Tag}
use Rattle.txn_types.specs.declared.write.Write.{Write}
use Rattle.txn_types.specs.declared.write.Write.TheVariants.{Put, Delete}
use Rattle.txn_semantics.specs.Keyed.{Rises}
use Rattle.txn_semantics.specs.Writes.{Place, place_cmp}
use Rattle.version_store.specs.declared.version.Version.{Version}
use Rattle.version_store.specs.Versions.{Versions, first, writer_of, is_of}
use Rattle.version_store.specs.Ids.{HaveIds}
use Rattle.version_store.specs.Nested.{flattened}

-- all are committed
abbrev pub AreCommitted : List Version → Type 0
AreCommitted [] = Unit {0}
AreCommitted (version ∷ versions) = (writer_of version.stamp ≡ None) × AreCommitted versions

-- all but the first are committed
abbrev pub IsChain : List Version → Type 0
IsChain [] = Unit {0}
IsChain (version ∷ versions) = AreCommitted versions

-- whether the first is the transaction's
abbrev pub begins : Tag → List Version → Bool
begins tag [] = false
begins tag (version ∷ versions) = is_of tag version

-- there is a version, and all but the first are committed
abbrev pub IsHistory : List Version → Type 0
IsHistory versions = (is_some (first versions) ≡ true) × IsChain versions

-- what stands under each key is such
abbrev pub Each : {K V : Type 0} → (V → Type 0) → List (K × V) → Type 0
Each P [] = Unit {0}
Each P (row ∷ rows) = P row.1 × Each P rows

-- the documents of a namespace: the ids rise, each with its versions
pub record IsCollection (rows : List (Id × List Version)) : Type 0 where
  pub rises : Rises id_cmp rows
  pub histories : Each IsHistory rows

-- the namespaces rise, each with its documents, which stand under their own ids
pub record AreCollections (groups : List (List ℕ × List (Id × List Version))) : Type 0 where
  pub rises : Rises (slice_cmp nat_cmp) groups
  pub collections : Each IsCollection groups
  pub ids : HaveIds (flattened groups)

-- what a store keeps: the keys rise, each has a version, all versions of a key but the first are
-- committed, and each document stands under its own id
pub record IsKept (store : Versions) : Type 0 where
  pub rises : Rises place_cmp store
  pub histories : Each IsHistory store
  pub ids : HaveIds store

-- the versions under a key
abbrev pub versions_at : {K : Type 0} → (K → K → Ordering) → K → List (K × List Version)
    → List Version
versions_at cmp key rows = unwrap_or (lookup (is_at (cmp key)) rows) []

-- the write of a document, or of none, at a place
abbrev pub write_of : Place → Option Document → Write
write_of place (Some doc) = Put place.0 place.1 doc
write_of place None = Delete place.0 place.1

-- with something else under one key
abbrev pub changed_at : {K V : Type 0} → (K → K → Ordering) → (V → V) → K → List (K × V)
    → List (K × V)
changed_at cmp f key rows =
    map (λ row. if is_eq (cmp key row.0) then (row.0, f row.1) else row) rows

-- and under several, one after the other
abbrev pub changed_under : {K V : Type 0} → (K → K → Ordering) → (V → V) → List K → List (K × V)
    → List (K × V)
changed_under cmp f [] rows = rows
changed_under cmp f (key ∷ keys) rows = changed_under cmp f keys (changed_at cmp f key rows)

-- without the keys that have no version
abbrev pub with_versions : {K : Type 0} → List (K × List Version) → List (K × List Version)
with_versions rows = filter (λ row. is_some (first row.1)) rows
