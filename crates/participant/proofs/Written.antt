-- The versions of transactions after what another one, or the transaction itself, writes, and
-- after its end.
use Rattle.std.proofs.Common.{◌≡◌, ℕ, Bool, true, false, cond, not, List, [], ◌∷◌, Option, Some}
use Rattle.std.proofs.Common.{None, map, find, option_map, unwrap_or, is_some, refl, ap, ◌∙◌, sym}
use Rattle.std.specs.List.{cons_option}
use Rattle.std.specs.Map.{lookup}
use Rattle.std.specs.BTreeMap.{is_at}
use Rattle.std.specs.declared.cmp.Ordering.{Ordering}
use Rattle.std.specs.declared.cmp.Ordering.TheVariants.{Less, Equal, Greater}
use Rattle.bson_core.specs.Fields.{Document}
use Rattle.txn_types.specs.Order.{same_tag}
use Rattle.txn_types.specs.declared.names.Tag.{Tag}
use Rattle.txn_types.specs.declared.write.Write.{Write}
use Rattle.txn_semantics.specs.Keyed.{put, laid, AllAbove, Rises}
use Rattle.txn_semantics.specs.Writes.{Place, place_of, place_cmp}
use Rattle.txn_semantics.proofs.Laying.{above_trans, rises_put}
use Rattle.txn_semantics.proofs.Places.{place_total, place_exact}
use Rattle.txn_semantics.proofs.Steps.{filters}
use Rattle.version_store.specs.declared.version.Stamp.TheVariants.{Unfinished, At}
use Rattle.version_store.specs.declared.version.Version.{Version}
use Rattle.version_store.specs.Versions.{Versions, first, is_of, versions_of, content_of, without}
use Rattle.version_store.specs.Versions.{with_write, with_writes, restamped, stamped, dropped}
use Rattle.version_store.specs.Versions.{decided, written_by, keys_of}
use Rattle.version_store.proofs.Keyed.{none_above, put_in_front, put_here, put_before, put_behind}
use Rattle.version_store.proofs.Keyed.{passed, found_here, same_above}
use Rattle.version_store.proofs.TakenBack.{versions_by}
use Rattle.participant.proofs.Keys.{found_without}
use Rattle.participant.proofs.Tags.{tag_self, tag_flip}
use Rattle.participant.proofs.Inserted.{all_into, keys_laid}

abbrev Row : Type 0
Row = Place × List Version

abbrev Left : Type 0
Left = Place × Option Document

-- what a transaction wrote under a key, in front of others
abbrev row_of : Place → Option Version → List Left → List Left
row_of place o rows =
    cons_option (option_map (λ version. let row : Left = (place, version.doc) in row) o) rows

-- After its end.

none_left_case : (tag : Tag) (v : Version) (V : List Version) (b : Bool)
    → is_of tag v ≡ b → find (is_of tag) (without tag V) ≡ None
    → find (is_of tag) (cond (not b) (v ∷ without tag V) (without tag V)) ≡ None
none_left_case tag v V true is more = more
none_left_case tag v V false is more =
    ap (λ b. cond b (Some v) (find (is_of tag) (without tag V))) is ∙ more

none_left : (tag : Tag) (V : List Version) → find (is_of tag) (without tag V) ≡ None
none_left tag [] = refl
none_left tag (v ∷ V) = none_left_case tag v V (is_of tag v) refl (none_left tag V)

gone_case : (tag : Tag) (place : Place) (V : List Version) (rest : Versions) (b : Bool)
    → find (is_of tag) V ≡ None → written_by tag rest ≡ []
    → written_by tag (cond b ((place, V) ∷ rest) rest) ≡ []
gone_case tag place V rest true none more =
    ap (λ o. row_of place o (written_by tag rest)) none ∙ more
gone_case tag place V rest false none more = more

none_written_dropped : (tag : Tag) (store : Versions) → written_by tag (dropped tag store) ≡ []
none_written_dropped tag [] = refl
none_written_dropped tag (key ∷ store) = gone_case tag key.0 (without tag key.1) (dropped tag store)
    (is_some (first (without tag key.1))) (none_left tag key.1) (none_written_dropped tag store)

-- a transaction that was dropped has no key
pub keys_gone : (tag : Tag) (store : Versions) → keys_of tag (dropped tag store) ≡ []
keys_gone tag store = ap (map (λ (key : Left). key.0)) (none_written_dropped tag store)

committed_case : (tag : Tag) (at : ℕ) (v : Version) (V : List Version) (b : Bool) → is_of tag v ≡ b
    → find (is_of tag) (map (restamped tag (At at)) V) ≡ None
    → find (is_of tag) (cond b (record { stamp = At at; doc = v.doc }) v
    ∷ map (restamped tag (At at)) V) ≡ None
committed_case tag at v V true is more = more
committed_case tag at v V false is more =
    ap (λ b. cond b (Some v) (find (is_of tag) (map (restamped tag (At at)) V))) is ∙ more

none_open : (tag : Tag) (at : ℕ) (V : List Version)
    → find (is_of tag) (map (restamped tag (At at)) V) ≡ None
none_open tag at [] = refl
none_open tag at (v ∷ V) = committed_case tag at v V (is_of tag v) refl (none_open tag at V)

none_written_committed : (tag : Tag) (at : ℕ) (store : Versions)
    → written_by tag (stamped tag (At at) store) ≡ []
none_written_committed tag at [] = refl
none_written_committed tag at (key ∷ store) =
    ap (λ o. row_of key.0 o (written_by tag (stamped tag (At at) store))) (none_open tag at key.1)
    ∙ none_written_committed tag at store

-- one that committed has none
pub keys_committed : (tag : Tag) (at : ℕ) (store : Versions)
    → keys_of tag (stamped tag (At at) store) ≡ []
keys_committed tag at store = ap (map (λ (key : Left). key.0)) (none_written_committed tag at store)

pub keys_decided : (tag : Tag) (at : Option ℕ) (store : Versions)
    → keys_of tag (decided tag at store) ≡ []
keys_decided tag (Some at) store = keys_committed tag at store
keys_decided tag None store = keys_gone tag store

-- After a write of its own.

above_row : (tag : Tag) (low place : Place) (o : Option Version) (rows : List Left)
    → place_cmp low place ≡ Less → AllAbove place_cmp low rows
    → AllAbove place_cmp low (row_of place o rows)
above_row tag low place None rows less above = above
above_row tag low place (Some v) rows less above = (less, above)

above_written : (tag : Tag) (low : Place) (store : Versions) → AllAbove place_cmp low store
    → AllAbove place_cmp low (written_by tag store)
above_written tag low [] above = tt
above_written tag low (key ∷ store) above = above_row tag low key.0 (find (is_of tag) key.1)
    (written_by tag store) above.0 (above_written tag low store above.1)

rises_row : (tag : Tag) (place : Place) (o : Option Version) (rows : List Left)
    → AllAbove place_cmp place rows → Rises place_cmp rows → Rises place_cmp (row_of place o rows)
rises_row tag place None rows above r = r
rises_row tag place (Some v) rows above r = (above, r)

pub rises_written : (tag : Tag) (store : Versions) → Rises place_cmp store
    → Rises place_cmp (written_by tag store)
rises_written tag [] r = tt
rises_written tag (key ∷ store) r = rises_row tag key.0 (find (is_of tag) key.1) (written_by tag
    store) (above_written tag key.0 store r.0) (rises_written tag store r.1)

own_here : (place : Place) (v : Version) (row : Row) (rows : List Left) (o : Option Version)
    → place_cmp place row.0 ≡ Equal → AllAbove place_cmp place rows
    → (let left : Left = (place, v.doc) in left) ∷ rows
    ≡ put place_cmp place v.doc (row_of row.0 o rows)
own_here place v row rows None is above = sym (put_in_front place_cmp place v.doc rows above)
own_here place v row rows (Some w) is above =
    sym (put_here place_cmp place v.doc (row.0, w.doc) rows is)

own_behind : (place : Place) (v : Version) (row : Row) (rows more : List Left) (o : Option Version)
    → place_cmp place row.0 ≡ Greater → more ≡ put place_cmp place v.doc rows
    → row_of row.0 o more ≡ put place_cmp place v.doc (row_of row.0 o rows)
own_behind place v row rows more None is h = h
own_behind place v row rows more (Some w) is h =
    ap (λ (xs : List Left). (let left : Left = (row.0, w.doc) in left) ∷ xs) h
    ∙ sym (put_behind place_cmp place v.doc (row.0, w.doc) rows is)

own_case : (tag : Tag) (place : Place) (V : List Version) (v : Version) (row : Row)
    (rows : Versions) (o : Ordering) → place_cmp place row.0 ≡ o → Rises place_cmp (row ∷ rows)
    → find (is_of tag) V ≡ Some v
    → written_by tag (put place_cmp place V rows) ≡ put place_cmp place v.doc (written_by tag rows)
    → written_by tag (elim o [
      | Less ↦ (place, V) ∷ row ∷ rows
      | Equal ↦ (place, V) ∷ rows
      | Greater ↦ row ∷ put place_cmp place V rows
    ]) ≡ put place_cmp place v.doc (written_by tag (row ∷ rows))
own_case tag place V v row rows Less is r own more =
    ap (λ o. row_of place o (written_by tag (row ∷ rows))) own
    ∙ sym (put_in_front place_cmp place v.doc (written_by tag (row ∷ rows)) (above_written tag place
    (row ∷ rows) (is, above_trans place_cmp place_total place_exact place row.0 rows is r.0)))
own_case tag place V v row rows Equal is r own more =
    ap (λ o. row_of place o (written_by tag rows)) own
    ∙ own_here place v row (written_by tag rows) (find (is_of tag) row.1) is (above_written tag
    place rows (same_above place_cmp place_total place_exact place row rows is r))
own_case tag place V v row rows Greater is r own more = own_behind place v row (written_by tag rows)
    (written_by tag (put place_cmp place V rows)) (find (is_of tag) row.1) is more

written_put : (tag : Tag) (place : Place) (V : List Version) (v : Version) (store : Versions)
    → Rises place_cmp store → find (is_of tag) V ≡ Some v
    → written_by tag (put place_cmp place V store)
    ≡ put place_cmp place v.doc (written_by tag store)
written_put tag place V v [] r own = ap (λ o. row_of place o []) own
written_put tag place V v (row ∷ rows) r own = own_case tag place V v row rows (place_cmp place
    row.0) refl r own (written_put tag place V v rows r.1 own)

-- what a write leaves, under its key
abbrev left_of : Write → Left
left_of write = (place_of write, content_of write)

abbrev version_of : Tag → Write → Version
version_of tag write = record { stamp = Unfinished tag; doc = content_of write }

written_one : (tag : Tag) (store : Versions) (write : Write)
    → Rises place_cmp store → written_by tag (with_write tag store write)
    ≡ put place_cmp (place_of write) (content_of write) (written_by tag store)
written_one tag store write r =
    let V : List Version = without tag (versions_of store (place_of write)) in
    written_put tag (place_of write) (version_of tag write ∷ V) (version_of tag write) store r
    (ap (λ b. cond b (Some (version_of tag write)) (find (is_of tag) V)) (tag_self tag))

pub rises_with : (tag : Tag) (store : Versions) (write : Write) → Rises place_cmp store
    → Rises place_cmp (with_write tag store write)
rises_with tag store write r = rises_put place_cmp place_total place_exact (place_of write)
    (version_of tag write ∷ without tag (versions_of store (place_of write))) store r

written_all : (tag : Tag) (store : Versions) (writes : List Write)
    → Rises place_cmp store → written_by tag (with_writes tag store writes)
    ≡ laid place_cmp (written_by tag store) (map left_of writes)
written_all tag store [] r = refl
written_all tag store (write ∷ writes) r =
    written_all tag (with_write tag store write) writes (rises_with tag store write r)
    ∙ ap (λ (rows : List Left). laid place_cmp rows (map left_of writes)) (written_one tag
    store write r)

keys_left_of : (writes : List Write)
    → map (λ (row : Left). row.0) (map left_of writes) ≡ map place_of writes
keys_left_of [] = refl
keys_left_of (write ∷ writes) =
    ap (λ (keys : List Place). place_of write ∷ keys) (keys_left_of writes)

-- the keys of a transaction after its writes
pub keys_with : (tag : Tag) (store : Versions) (writes : List Write)
    → Rises place_cmp store → keys_of tag (with_writes tag store writes)
    ≡ all_into place_cmp (map place_of writes) (keys_of tag store)
keys_with tag store writes r =
    ap (map (λ (row : Left). row.0)) (written_all tag store writes r)
    ∙ keys_laid place_cmp (written_by tag store) (map left_of writes)
    ∙ ap (λ (keys : List Place). all_into place_cmp keys (keys_of tag store)) (keys_left_of writes)

-- After the writes of another one.

abbrev keys_in : List Left → List Place
keys_in rows = map (λ (row : Left). row.0) rows

row_keys : (place other : Place) (a b : Option Version) (xs ys : List Left)
    → place ≡ other → is_some a ≡ is_some b → keys_in xs ≡ keys_in ys
    → keys_in (row_of place a xs) ≡ keys_in (row_of other b ys)
row_keys place other None None xs ys here same more = more
row_keys place other None (Some v) xs ys here same more = cc
row_keys place other (Some v) None xs ys here same more = cc
row_keys place other (Some v) (Some w) xs ys here same more =
    ap (λ (p : Place). p ∷ keys_in xs) here ∙ ap (λ (keys : List Place). other ∷ keys) more

no_row : (place : Place) (a : Option Version) (xs : List Left) → is_some a ≡ false
    → keys_in (row_of place a xs) ≡ keys_in xs
no_row place None xs none = refl
no_row place (Some v) xs none = cc

-- whether a transaction has a version of a place
abbrev has_there : Tag → Place → Versions → Bool
has_there tag place store =
    is_some (find (is_of tag) (unwrap_or (lookup (is_at (place_cmp place)) store) []))

others_case : (tag : Tag) (place : Place) (V : List Version) (row : Row) (rows : Versions)
    (o : Ordering) → place_cmp place row.0 ≡ o → Rises place_cmp (row ∷ rows)
    → is_some (find (is_of tag) V) ≡ has_there tag place (row ∷ rows)
    → (is_some (find (is_of tag) V) ≡ has_there tag place rows
    → keys_of tag (put place_cmp place V rows) ≡ keys_of tag rows)
    → keys_of tag (put place_cmp place V (row ∷ rows)) ≡ keys_of tag (row ∷ rows)
others_case tag place V row rows Less is r same more =
    let none : lookup (is_at (place_cmp place)) (row ∷ rows) ≡ None = none_above place_cmp place
    (row ∷ rows) (is, above_trans place_cmp place_total place_exact place row.0 rows is r.0) in
    ap (keys_of tag) (put_before place_cmp place V row rows is)
    ∙ no_row place (find (is_of tag) V) (written_by tag (row ∷ rows)) (same
    ∙ ap (λ (o : Option (List Version)). is_some (find (is_of tag) (unwrap_or o []))) none)
others_case tag place V row rows Equal is r same more =
    ap (keys_of tag) (put_here place_cmp place V row rows is)
    ∙ row_keys place row.0 (find (is_of tag) V) (find (is_of tag) row.1) (written_by tag rows)
    (written_by tag rows) (place_exact place row.0 is)
    (same ∙ ap (λ (o : Option (List Version)). is_some (find (is_of tag) (unwrap_or o [])))
    (found_here place_cmp place row rows is)) refl
others_case tag place V row rows Greater is r same more =
    ap (keys_of tag) (put_behind place_cmp place V row rows is)
    ∙ row_keys row.0 row.0 (find (is_of tag) row.1) (find (is_of tag) row.1)
    (written_by tag (put place_cmp place V rows)) (written_by tag rows) refl refl
    (more (same ∙ ap (λ (o : Option (List Version)). is_some (find (is_of tag) (unwrap_or o [])))
    (passed place_cmp place row rows Greater is refl)))

keys_put_other : (tag : Tag) (place : Place) (V : List Version) (store : Versions)
    → Rises place_cmp store → is_some (find (is_of tag) V) ≡ has_there tag place store
    → keys_of tag (put place_cmp place V store) ≡ keys_of tag store
keys_put_other tag place V [] r same = no_row place (find (is_of tag) V) [] same
keys_put_other tag place V (row ∷ rows) r same = others_case tag place V row rows (place_cmp place
    row.0) refl r same (keys_put_other tag place V rows r.1)

pub keys_with_one : (tag other : Tag) (store : Versions) (write : Write) → Rises place_cmp store
    → same_tag other tag ≡ false → keys_of other (with_write tag store write) ≡ keys_of other store
keys_with_one tag other store write r apart =
    let V : List Version = versions_of store (place_of write) in
    let not_it : is_of other (version_of tag write) ≡ false = tag_flip tag other ∙ apart in
    keys_put_other other (place_of write) (version_of tag write ∷ without tag V) store r
    (ap (λ b. is_some (cond b (Some (version_of tag write)) (find (is_of other) (without tag V))))
    not_it
    ∙ ap (λ (o : Option Version). is_some o) (found_without tag other V apart)
    ∙ ap (λ (W : List Version). is_some (find (is_of other) W))
    (versions_by (place_of write) store))

pub keys_with_others : (tag other : Tag) (store : Versions) (writes : List Write)
    → Rises place_cmp store → same_tag other tag ≡ false
    → keys_of other (with_writes tag store writes) ≡ keys_of other store
keys_with_others tag other store [] r apart = refl
keys_with_others tag other store (write ∷ writes) r apart = keys_with_others tag
    other (with_write tag store write) writes (rises_with tag store write r) apart
    ∙ keys_with_one tag other store write r apart

-- An older transaction ends before or after the writes of another.

above_kept : (low place : Place) (V : List Version) (rows : Versions) (b : Bool)
    → place_cmp low place ≡ Less → AllAbove place_cmp low rows
    → AllAbove place_cmp low (cond b ((place, V) ∷ rows) rows)
above_kept low place V rows true less above = (less, above)
above_kept low place V rows false less above = above

above_dropped : (tag : Tag) (low : Place) (store : Versions) → AllAbove place_cmp low store
    → AllAbove place_cmp low (dropped tag store)
above_dropped tag low [] above = tt
above_dropped tag low (key ∷ store) above = above_kept low key.0 (without tag key.1) (dropped tag
    store) (is_some (first (without tag key.1))) above.0 (above_dropped tag low store above.1)

rises_kept : (place : Place) (V : List Version) (rows : Versions) (b : Bool)
    → AllAbove place_cmp place rows → Rises place_cmp rows
    → Rises place_cmp (cond b ((place, V) ∷ rows) rows)
rises_kept place V rows true above r = (above, r)
rises_kept place V rows false above r = r

pub rises_dropped : (tag : Tag) (store : Versions) → Rises place_cmp store
    → Rises place_cmp (dropped tag store)
rises_dropped tag [] r = tt
rises_dropped tag (key ∷ store) r =
    rises_kept key.0 (without tag key.1) (dropped tag store) (is_some (first (without tag key.1)))
    (above_dropped tag key.0 store r.0) (rises_dropped tag store r.1)

here_kept : (place : Place) (V W : List Version) (row : Row) (rows : Versions) (b : Bool)
    → place_cmp place row.0 ≡ Equal → AllAbove place_cmp place rows
    → (let r : Row = (place, V) in r) ∷ rows
    ≡ put place_cmp place V (cond b ((row.0, W) ∷ rows) rows)
here_kept place V W row rows true is above = sym (put_here place_cmp place V (row.0, W) rows is)
here_kept place V W row rows false is above = sym (put_in_front place_cmp place V rows above)

behind_kept : (place : Place) (V W : List Version) (row : Row) (rows more : Versions) (b : Bool)
    → place_cmp place row.0 ≡ Greater → more ≡ put place_cmp place V rows
    → cond b ((row.0, W) ∷ more) more ≡ put place_cmp place V (cond b ((row.0, W) ∷ rows) rows)
behind_kept place V W row rows more true is h = ap (λ (xs : Versions). (row.0, W) ∷ xs) h
    ∙ sym (put_behind place_cmp place V (row.0, W) rows is)
behind_kept place V W row rows more false is h = h

dropped_case : (tag : Tag) (place : Place) (V : List Version) (row : Row) (rows : Versions)
    (o : Ordering) → place_cmp place row.0 ≡ o → Rises place_cmp (row ∷ rows)
    → is_some (first (without tag V)) ≡ true
    → dropped tag (put place_cmp place V rows)
    ≡ put place_cmp place (without tag V) (dropped tag rows)
    → dropped tag (put place_cmp place V (row ∷ rows))
    ≡ put place_cmp place (without tag V) (dropped tag (row ∷ rows))
dropped_case tag place V row rows Less is r some more =
    ap (dropped tag) (put_before place_cmp place V row rows is)
    ∙ ap (λ b. cond b ((place, without tag V) ∷ dropped tag (row ∷ rows))
    (dropped tag (row ∷ rows))) some
    ∙ sym (put_in_front place_cmp place (without tag V)
    (dropped tag (row ∷ rows)) (above_dropped tag place (row ∷ rows)
    (is, above_trans place_cmp place_total place_exact place row.0 rows is r.0)))
dropped_case tag place V row rows Equal is r some more =
    ap (dropped tag) (put_here place_cmp place V row rows is)
    ∙ ap (λ b. cond b ((place, without tag V) ∷ dropped tag rows) (dropped tag rows)) some
    ∙ here_kept place (without tag V) (without tag row.1) row (dropped tag rows)
    (is_some (first (without tag row.1))) is (above_dropped tag place rows
    (same_above place_cmp place_total place_exact place row rows is r))
dropped_case tag place V row rows Greater is r some more =
    ap (dropped tag) (put_behind place_cmp place V row rows is)
    ∙ behind_kept place (without tag V) (without tag row.1) row (dropped tag rows)
    (dropped tag (put place_cmp place V rows)) (is_some (first (without tag row.1))) is more

dropped_put : (tag : Tag) (place : Place) (V : List Version) (store : Versions)
    → Rises place_cmp store → is_some (first (without tag V)) ≡ true
    → dropped tag (put place_cmp place V store)
    ≡ put place_cmp place (without tag V) (dropped tag store)
dropped_put tag place V [] r some = ap (λ b. cond b ((place, without tag V) ∷ []) []) some
dropped_put tag place V (row ∷ rows) r some = dropped_case tag place V row rows (place_cmp place
    row.0) refl r some (dropped_put tag place V rows r.1 some)

-- the versions of a place, as a tree finds them
abbrev line_at : Place → Versions → List Version
line_at place store = unwrap_or (lookup (is_at (place_cmp place)) store) []

line_none : (place : Place) (store : Versions) → AllAbove place_cmp place store
    → line_at place store ≡ []
line_none place store above =
    ap (λ (o : Option (List Version)). unwrap_or o []) (none_above place_cmp place store above)

line_here : (place : Place) (row : Row) (store : Versions) → place_cmp place row.0 ≡ Equal
    → line_at place (row ∷ store) ≡ row.1
line_here place row store is =
    ap (λ (o : Option (List Version)). unwrap_or o []) (found_here place_cmp place row store is)

line_past : (place : Place) (row : Row) (store : Versions) → place_cmp place row.0 ≡ Greater
    → line_at place (row ∷ store) ≡ line_at place store
line_past place row store is = ap (λ (o : Option (List Version)).
    unwrap_or o []) (passed place_cmp place row store Greater is refl)

left_here : (place : Place) (row : Row) (V : List Version) (rows : Versions)
    → place_cmp place row.0 ≡ Equal → AllAbove place_cmp place rows
    → line_at place (cond (is_some (first V)) ((row.0, V) ∷ rows) rows) ≡ V
left_here place row [] rows is above = line_none place rows above
left_here place row (v ∷ V) rows is above = line_here place (row.0, v ∷ V) rows is

left_past : (place : Place) (row : Row) (V : List Version) (rows : Versions) (b : Bool)
    → place_cmp place row.0 ≡ Greater
    → line_at place (cond b ((row.0, V) ∷ rows) rows) ≡ line_at place rows
left_past place row V rows true is = line_past place (row.0, V) rows is
left_past place row V rows false is = refl

line_dropped_case : (tag : Tag) (place : Place) (row : Row) (rows : Versions) (o : Ordering)
    → place_cmp place row.0 ≡ o → Rises place_cmp (row ∷ rows)
    → line_at place (dropped tag rows) ≡ without tag (line_at place rows)
    → line_at place (dropped tag (row ∷ rows)) ≡ without tag (line_at place (row ∷ rows))
line_dropped_case tag place row rows Less is r more =
    let above : AllAbove place_cmp place (row ∷ rows) =
    (is, above_trans place_cmp place_total place_exact place row.0 rows is r.0) in
    line_none place (dropped tag (row ∷ rows)) (above_dropped tag place (row ∷ rows) above)
    ∙ ap (without tag) (sym (line_none place (row ∷ rows) above))
line_dropped_case tag place row rows Equal is r more =
    left_here place row (without tag row.1) (dropped tag rows) is (above_dropped tag
    place rows (same_above place_cmp place_total place_exact place row rows is r))
    ∙ ap (without tag) (sym (line_here place row rows is))
line_dropped_case tag place row rows Greater is r more =
    left_past place row (without tag row.1) (dropped tag rows) (is_some (first (without tag row.1)))
    is ∙ more ∙ ap (without tag) (sym (line_past place row rows is))

line_dropped : (tag : Tag) (place : Place) (store : Versions) → Rises place_cmp store
    → line_at place (dropped tag store) ≡ without tag (line_at place store)
line_dropped tag place [] r = refl
line_dropped tag place (row ∷ rows) r = line_dropped_case tag place row rows (place_cmp place row.0)
    refl r (line_dropped tag place rows r.1)

versions_dropped : (tag : Tag) (place : Place) (store : Versions) → Rises place_cmp store
    → versions_of (dropped tag store) place ≡ without tag (versions_of store place)
versions_dropped tag place store r = versions_by place (dropped tag store)
    ∙ line_dropped tag place store r ∙ ap (without tag) (sym (versions_by place store))

-- a version of one transaction stands without those of another
kept_first : (tag older : Tag) (write : Write) (V : List Version) → same_tag tag older ≡ false
    → without older (version_of tag write ∷ V) ≡ version_of tag write ∷ without older V
kept_first tag older write V apart =
    ap (λ b. cond (not b) (version_of tag write ∷ without older V) (without older V)) apart

dropped_one : (tag older : Tag) (store : Versions) (write : Write)
    → Rises place_cmp store → same_tag tag older ≡ false
    → dropped older (with_write tag store write) ≡ with_write tag (dropped older store) write
dropped_one tag older store write r apart =
    let place : Place = place_of write in
    let V : List Version = versions_of store place in
    let kept = kept_first tag older write (without tag V) apart in
    dropped_put older place (version_of tag write ∷ without tag V) store r
    (ap (λ (W : List Version). is_some (first W)) kept)
    ∙ ap (λ (W : List Version). put place_cmp place W (dropped older store)) kept
    ∙ ap (λ (W : List Version). put place_cmp place (version_of tag write ∷ W)
    (dropped older store))
    (filters (λ v. not (is_of older v)) (λ v. not (is_of tag v)) V
    ∙ ap (without tag) (sym (versions_dropped older place store r)))

pub dropped_with : (tag older : Tag) (store : Versions) (writes : List Write)
    → Rises place_cmp store → same_tag tag older ≡ false
    → dropped older (with_writes tag store writes) ≡ with_writes tag (dropped older store) writes
dropped_with tag older store [] r apart = refl
dropped_with tag older store (write ∷ writes) r apart =
    dropped_with tag older (with_write tag store write) writes (rises_with tag store write r) apart
    ∙ ap (λ (s : Versions). with_writes tag s writes) (dropped_one tag older store
    write r apart)
