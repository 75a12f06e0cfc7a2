-- Writes that are put one after the other, and taken back.
use Rattle.std.specs.Prelude.{◌≡◌, List, [], ◌∷◌, Option, Some, None, find, if◌then◌else◌}
use Rattle.std.specs.List.{filter_map}
use Rattle.txn_types.specs.declared.names.Tag.{Tag}
use Rattle.txn_types.specs.declared.write.Write.{Write}
use Rattle.txn_semantics.specs.Writes.{Place, place_of, place_cmp}
use Rattle.version_store.specs.declared.version.Version.{Version}
use Rattle.version_store.specs.declared.laid.Laid.{Laid}
use Rattle.version_store.specs.Versions.{Versions, first, other_writer_of, is_of, versions_of}
use Rattle.version_store.specs.Versions.{without}
use Rattle.version_store.specs.Chains.{begins, changed_at, with_versions}
use Rattle.version_store.specs.Ids.{HoldsId}

-- where these write, no other transaction has a version
abbrev pub AreFree : Tag → Versions → List Write → Type 0
AreFree tag store [] = Unit {0}
AreFree tag store (write ∷ writes) =
    (first (filter_map (other_writer_of tag) (versions_of store (place_of write))) ≡ None)
    × AreFree tag store writes

-- with a version in place of the transaction's own, where it has one
abbrev pub put_back : Tag → Version → List Version → List Version
put_back tag version versions = if begins tag versions then version ∷ without tag versions
    else versions

-- what a write replaces
abbrev pub laid_by : Tag → Versions → Write → Laid
laid_by tag store write = record {
  key = place_of write;
  replaced = find (is_of tag) (versions_of store (place_of write));
}

-- what was replaced stood under its own id
abbrev pub HadIds : List Laid → Type 0
HadIds [] = Unit {0}
HadIds (laid ∷ others) = HoldsId laid.key.1 laid.replaced × HadIds others

-- without the transaction's version of a document, or with its older one again
abbrev pub taken_back_at : Tag → Place → Option Version → Versions → Versions
taken_back_at tag place None store = with_versions (changed_at place_cmp (without tag) place store)
taken_back_at tag place (Some version) store =
    changed_at place_cmp (put_back tag version) place store

abbrev pub taken_back : Tag → Laid → Versions → Versions
taken_back tag laid store = taken_back_at tag laid.key laid.replaced store

-- all are taken back, the last one first
abbrev pub all_taken_back : Tag → List Laid → Versions → Versions
all_taken_back tag [] store = store
all_taken_back tag (laid ∷ others) store = taken_back tag laid (all_taken_back tag others store)
