-- Documents stand under their own ids: in a store after writes, stamps and ends, and in what a
-- scan gives.
use Rattle.std.proofs.Common.{◌≡◌, ◌&&◌, ℕ, Bool, true, false, cond, not, List, [], ◌∷◌, Option}
use Rattle.std.proofs.Common.{Some, None, map, find, option_map, unwrap_or, is_some, Result, Ok}
use Rattle.std.proofs.Common.{Err, OnOk, OnErr, refl, subst, sym}
use Rattle.std.specs.List.{cons_option}
use Rattle.std.specs.Option.{option_or, option_and_then}
use Rattle.std.specs.Str.{bytes_eq}
use Rattle.std.specs.declared.cmp.Ordering.{Ordering}
use Rattle.std.specs.declared.cmp.Ordering.TheVariants.{Less, Equal, Greater}
use Rattle.std.specs.Ordering.{is_eq}
use Rattle.bson_core.specs.Fields.{Document}
use Rattle.txn_types.specs.Writes.{HasOwnId}
use Rattle.txn_types.specs.declared.id.Id.{Id}
use Rattle.txn_types.specs.declared.names.Tag.{Tag}
use Rattle.txn_types.specs.declared.write.Write.{Write}
use Rattle.txn_types.specs.declared.write.Write.TheVariants.{Put, Delete}
use Rattle.txn_semantics.specs.Effect.{AreKnown}
use Rattle.txn_semantics.specs.Keyed.{put}
use Rattle.txn_semantics.specs.Meaning.{document_rules}
use Rattle.txn_semantics.specs.Rows.{Row}
use Rattle.txn_semantics.specs.Touched.{Touched, touches}
use Rattle.txn_semantics.specs.Writes.{Place, place_of, place_cmp}
use Rattle.txn_semantics.proofs.Places.{place_exact}
use Rattle.version_store.specs.declared.version.Stamp.{Stamp}
use Rattle.version_store.specs.declared.version.Stamp.TheVariants.{Unfinished}
use Rattle.version_store.specs.declared.version.Version.{Version}
use Rattle.version_store.specs.Versions.{Versions, first, is_of, is_committed_by, seen_version}
use Rattle.version_store.specs.Versions.{seen, versions_of, content_of, without, with_write}
use Rattle.version_store.specs.Versions.{restamped}
use Rattle.version_store.specs.Versions.{touched_keys, rows_among}
use Rattle.version_store.specs.Chains.{begins, changed_at, with_versions}
use Rattle.version_store.specs.Ids.{HasId, HoldsId, HaveId, HaveIds}
use Rattle.version_store.specs.TakenBack.{put_back}

without_case : (id : Id) (v : Version) (V : List Version) (b : Bool) → HasId id v.doc → HaveId id V
    → HaveId id (cond b (v ∷ V) V)
without_case id v V true has more = (has, more)
without_case id v V false has more = more

pub ids_without : (tag : Tag) (id : Id) (V : List Version) → HaveId id V → HaveId id (without tag V)
ids_without tag id [] has = tt
ids_without tag id (v ∷ V) has =
    without_case id v (without tag V) (not (is_of tag v)) has.0 (ids_without tag id V has.1)

stamp_case : (id : Id) (stamp : Stamp) (v : Version) (b : Bool) → HasId id v.doc
    → HasId id (let w : Version = cond b (record { stamp = stamp; doc = v.doc }) v in w.doc)
stamp_case id stamp v true has = has
stamp_case id stamp v false has = has

pub ids_restamped : (tag : Tag) (stamp : Stamp) (id : Id) (V : List Version) → HaveId id V
    → HaveId id (map (restamped tag stamp) V)
ids_restamped tag stamp id [] has = tt
ids_restamped tag stamp id (v ∷ V) has =
    (stamp_case id stamp v (is_of tag v) has.0, ids_restamped tag stamp id V has.1)

back_case : (tag : Tag) (version : Version) (id : Id) (V : List Version) (b : Bool)
    → HasId id version.doc → HaveId id V → HaveId id (cond b (version ∷ without tag V) V)
back_case tag version id V true new has = (new, ids_without tag id V has)
back_case tag version id V false new has = has

pub ids_put_back : (tag : Tag) (version : Version) (id : Id) (V : List Version)
    → HasId id version.doc → HaveId id V → HaveId id (put_back tag version V)
ids_put_back tag version id V new has = back_case tag version id V (begins tag V) new has

-- A change of the versions under one key.

is_equal : (o : Ordering) → is_eq o ≡ true → o ≡ Equal
is_equal Less h = cc
is_equal Equal h = refl
is_equal Greater h = cc

place_same : (a b : Place) → is_eq (place_cmp a b) ≡ true → a ≡ b
place_same a b h = place_exact a b (is_equal (place_cmp a b) h)

abbrev HasIds : Place × List Version → Type 0
HasIds key = HaveId key.0.1 key.1

abbrev Keeps : Place → (List Version → List Version) → Type 0
Keeps place f = (V : List Version) → HaveId place.1 V → HaveId place.1 (f V)

change_case : (f : List Version → List Version) (place : Place) (key : Place
    × List Version) (b : Bool) → is_eq (place_cmp place key.0) ≡ b → Keeps place f → HasIds key
    → HasIds (cond b (key.0, f key.1) key)
change_case f place key true is keeps has =
    let same : place ≡ key.0 = place_same place key.0 is in
    subst (λ (p : Place). HaveId p.1 (f key.1)) same
    (keeps key.1 (subst (λ (p : Place). HaveId p.1 key.1) (sym same) has))
change_case f place key false is keeps has = has

pub ids_changed : (f : List Version → List Version) (place : Place) (store : Versions)
    → Keeps place f → HaveIds store → HaveIds (changed_at place_cmp f place store)
ids_changed f place [] keeps has = tt
ids_changed f place (key ∷ store) keeps has = (
  change_case f place key (is_eq (place_cmp place key.0)) refl keeps has.0,
  ids_changed f place store keeps has.1,
)

left_case : (key : Place × List Version) (store : Versions) (b : Bool) → HasIds key → HaveIds store
    → HaveIds (cond b (key ∷ store) store)
left_case key store true has more = (has, more)
left_case key store false has more = more

pub ids_left : (store : Versions) → HaveIds store → HaveIds (with_versions store)
ids_left [] has = tt
ids_left (key ∷ store) has =
    left_case key (with_versions store) (is_some (first key.1)) has.0 (ids_left store has.1)

-- Writes.

found_case : (place : Place) (key : Place × List Version) (rest : Versions) (b : Bool)
    → is_eq (place_cmp place key.0) ≡ b → HaveIds (key ∷ rest)
    → HaveId place.1 (unwrap_or (option_map (λ (key : Place × List Version). key.1)
    (find (λ (key : Place × List Version). is_eq (place_cmp place key.0)) rest)) [])
    → HaveId place.1 (unwrap_or (option_map (λ (key : Place × List Version). key.1) (cond b
    (Some key) (find (λ (key : Place × List Version). is_eq (place_cmp place key.0)) rest))) [])
found_case place key rest true is has more =
    subst (λ (p : Place). HaveId p.1 key.1) (sym (place_same place key.0 is)) has.0
found_case place key rest false is has more = more

pub ids_found : (place : Place) (store : Versions) → HaveIds store
    → HaveId place.1 (versions_of store place)
ids_found place [] has = tt
ids_found place (key ∷ store) has = found_case place key store (is_eq (place_cmp place key.0)) refl
    has (ids_found place store has.1)

put_case : (place : Place) (V : List Version) (row : Place × List Version) (rows : Versions)
    (o : Ordering) → HaveId place.1 V → HaveIds (row ∷ rows) → HaveIds (put place_cmp place V rows)
    → HaveIds (elim o [
      | Less ↦ (place, V) ∷ row ∷ rows
      | Equal ↦ (place, V) ∷ rows
      | Greater ↦ row ∷ put place_cmp place V rows
    ])
put_case place V row rows Less new has more = (new, has)
put_case place V row rows Equal new has more = (new, has.1)
put_case place V row rows Greater new has more = (has.0, more)

pub ids_put : (place : Place) (V : List Version) (store : Versions) → HaveId place.1 V
    → HaveIds store → HaveIds (put place_cmp place V store)
ids_put place V [] new has = (new, tt)
ids_put place V (row ∷ rows) new has =
    put_case place V row rows (place_cmp place row.0) new has (ids_put place V rows new has.1)

pub write_id : (write : Write) → HasOwnId write → HasId (place_of write).1 (content_of write)
write_id (Put ns id doc) kept = kept
write_id (Delete ns id) kept = tt

pub ids_with : (tag : Tag) (store : Versions) (write : Write) → HasOwnId write → HaveIds store
    → HaveIds (with_write tag store write)
ids_with tag store write kept has =
    ids_put (place_of write) (record { stamp = Unfinished tag; doc = content_of write }
    ∷ without tag (versions_of store (place_of write))) store (
      write_id write kept,
      ids_without tag (place_of write).1 (versions_of store (place_of write))
          (ids_found (place_of write) store has),
    ) has

pub ids_laid : {T E : Type 0} (r : Result T E) (tag : Tag)
    (place : Place) (version : Version) (old new : Versions)
    → OnOk r (new ≡ put place_cmp place (version ∷ without tag (versions_of old place)) old)
    → OnErr r (new ≡ old)
    → HasId place.1 version.doc → HaveIds old → HaveIds new
ids_laid (Ok t) tag place version old new ok err known has =
    subst HaveIds (sym ok) (ids_put place (version ∷ without tag (versions_of old place)) old
    (known, ids_without tag place.1 (versions_of old place) (ids_found place old has)) has)
ids_laid (Err f) tag place version old new ok err known has = subst HaveIds (sym err) has

-- What is seen.

find_case : (id : Id) (test : Version → Bool) (v : Version) (V : List Version) (b : Bool)
    → HasId id v.doc → HoldsId id (find test V) → HoldsId id (cond b (Some v) (find test V))
find_case id test v V true has more = has
find_case id test v V false has more = more

pub id_found : (id : Id) (test : Version → Bool) (V : List Version) → HaveId id V
    → HoldsId id (find test V)
id_found id test [] has = tt
id_found id test (v ∷ V) has = find_case id test v V (test v) has.0 (id_found id test V has.1)

or_case : (id : Id) (a b : Option Version) → HoldsId id a → HoldsId id b
    → HoldsId id (option_or a b)
or_case id None b ha hb = hb
or_case id (Some v) b ha hb = ha

doc_case : (id : Id) (o : Option Version) → HoldsId id o
    → HasId id (option_and_then (λ (version : Version). version.doc) o)
doc_case id None h = tt
doc_case id (Some v) h = h

id_seen : (at : ℕ) (tag : Tag) (id : Id) (V : List Version) → HaveId id V → HasId id (seen at tag V)
id_seen at tag id V has =
    doc_case id (seen_version at tag V) (or_case id (find (is_of tag) V) (find (is_committed_by at)
    V) (id_found id (is_of tag) V has) (id_found id (is_committed_by at) V has))

row_case : (id : Id) (o : Option Document) (rows : List Row) → HasId id o
    → AreKnown document_rules rows → AreKnown document_rules
    (cons_option (option_map (λ (doc : Document). let row : Row = (id, doc) in row) o) rows)
row_case id None rows has more = more
row_case id (Some doc) rows has more = (has, more)

known_rows : (at : ℕ) (tag : Tag) (keys : Versions) → HaveIds keys
    → AreKnown document_rules (rows_among at tag keys)
known_rows at tag [] has = tt
known_rows at tag (key ∷ keys) has = row_case key.0.1 (seen at tag key.1) (rows_among at tag keys)
    (id_seen at tag key.0.1 key.1 has.0) (known_rows at tag keys has.1)

ids_touched : (ns : List ℕ) (ids : Touched) (store : Versions) → HaveIds store
    → HaveIds (touched_keys store ns ids)
ids_touched ns ids [] has = tt
ids_touched ns ids (key ∷ store) has = left_case key (touched_keys store ns ids) (bytes_eq ns
    key.0.0 && touches ids key.0.1) has.0 (ids_touched ns ids store has.1)

-- the rows of a scan
pub rows_known : (ns : List ℕ) (ids : Touched) (at : ℕ) (tag : Tag) (store : Versions)
    → HaveIds store → AreKnown document_rules (rows_among at tag (touched_keys store ns ids))
rows_known ns ids at tag store has =
    known_rows at tag (touched_keys store ns ids) (ids_touched ns ids store has)
