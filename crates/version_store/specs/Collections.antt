-- What a scan looks at in the documents of one namespace.
use Rattle.std.specs.Prelude.{ℕ, List, filter, option_map, Result}
use Rattle.std.specs.List.{filter_map}
use Rattle.std.specs.Map.{lookup}
use Rattle.std.specs.BTreeMap.{is_at}
use Rattle.txn_types.specs.Order.{id_cmp}
use Rattle.txn_types.specs.declared.id.Id.{Id}
use Rattle.txn_types.specs.declared.names.Tag.{Tag}
use Rattle.txn_semantics.specs.Rows.{Row}
use Rattle.txn_semantics.specs.Touched.{Touched, touches}
use Rattle.version_store.specs.declared.version.Held.{Held}
use Rattle.version_store.specs.declared.version.Version.{Version}
use Rattle.version_store.specs.Versions.{first, holder, seen, unless}

-- the documents of a namespace, by rising id, each with its versions
abbrev pub Documents : Type 0
Documents = List (Id × List Version)

-- those of the touched ids
abbrev pub touched_of : Touched → Documents → Documents
touched_of ids docs = filter (λ row. touches ids row.0) docs

-- those of these ids, id by id
abbrev pub found_of : Documents → List Id → Documents
found_of docs ids =
    filter_map (λ id. option_map (λ versions. (id, versions)) (lookup (is_at (id_cmp id)) docs)) ids

-- the held ones
abbrev pub held_of : ℕ → Tag → Documents → List Held
held_of at tag docs = filter_map (λ row.
    option_map (λ h. record { id = row.0; tag = h.0; ts = h.1 }) (holder at tag row.1)) docs

-- what is seen of them
abbrev pub rows_of : ℕ → Tag → Documents → List Row
rows_of at tag docs = filter_map (λ row. option_map (λ doc. (row.0, doc)) (seen at tag row.1)) docs

-- what is seen of all, or the first that is held
abbrev pub look : ℕ → Tag → Documents → Result (List Row) Held
look at tag docs = unless (first (held_of at tag docs)) (rows_of at tag docs)
