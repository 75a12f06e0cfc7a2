-- The keys with a version of a transaction, where the versions of another one change.
use Rattle.std.proofs.Common.{◌≡◌, Bool, true, false, cond, not, List, [], ◌∷◌, Option, Some, None}
use Rattle.std.proofs.Common.{is_some, find, map, option_map, refl, ap, ◌∙◌, sym}
use Rattle.std.specs.List.{cons_option}
use Rattle.txn_types.specs.Order.{same_tag}
use Rattle.txn_types.specs.declared.names.Tag.{Tag}
use Rattle.bson_core.specs.Fields.{Document}
use Rattle.txn_semantics.specs.Writes.{Place}
use Rattle.version_store.specs.declared.version.Stamp.{Stamp}
use Rattle.version_store.specs.declared.version.Stamp.TheVariants.{Unfinished, Prepared, At}
use Rattle.version_store.specs.declared.version.Version.{Version}
use Rattle.version_store.specs.Versions.{Versions, first, is_some_and, is_of, writer_of, without}
use Rattle.version_store.specs.Versions.{restamped, stamped, dropped, written_by, keys_of}
use Rattle.participant.proofs.Tags.{tag_same, tag_flip}

-- One version.

writer_stamp : (tag : Tag) (stamp : Stamp)
    → is_some_and (λ writer. same_tag writer tag) (writer_of stamp) ≡ true
    → writer_of stamp ≡ Some tag
writer_stamp tag (Unfinished w) h = ap Some (tag_same w tag h)
writer_stamp tag (Prepared w at) h = ap Some (tag_same w tag h)
writer_stamp tag (At at) h = cc

pub of_writer : (tag : Tag) (v : Version) → is_of tag v ≡ true → writer_of v.stamp ≡ Some tag
of_writer tag v h = writer_stamp tag v.stamp h

-- a version of one transaction is of no other
pub of_one : (tag other : Tag) (v : Version) → is_of tag v ≡ true → same_tag other tag ≡ false
    → is_of other v ≡ false
of_one tag other v h apart = ap (is_some_and (λ writer. same_tag writer other)) (of_writer tag v h)
    ∙ tag_flip tag other ∙ apart

-- The versions of a key.

without_case : (tag other : Tag) (v : Version) (V : List Version) (b : Bool) → is_of tag v ≡ b
    → same_tag other tag ≡ false → find (is_of other) (without tag V) ≡ find (is_of other) V
    → find (is_of other) (cond (not b) (v ∷ without tag V) (without tag V))
    ≡ find (is_of other) (v ∷ V)
without_case tag other v V true is apart more = more
    ∙ ap (λ b. cond b (Some v) (find (is_of other) V)) (sym (of_one tag other v is apart))
without_case tag other v V false is apart more = ap (cond (is_of other v) (Some v)) more

pub found_without : (tag other : Tag) (V : List Version) → same_tag other tag ≡ false
    → find (is_of other) (without tag V) ≡ find (is_of other) V
found_without tag other [] apart = refl
found_without tag other (v ∷ V) apart =
    without_case tag other v V (is_of tag v) refl apart (found_without tag other V apart)

-- whether a version is of another transaction, where one has another stamp
restamp_case : (tag other : Tag) (stamp : Stamp) (v : Version) (b : Bool)
    → is_of tag v ≡ b → same_tag other tag ≡ false
    → is_some_and (λ writer. same_tag writer other) (writer_of stamp) ≡ false
    → is_of other (cond b (record { stamp = stamp; doc = v.doc }) v) ≡ is_of other v
restamp_case tag other stamp v true is apart none = none ∙ sym (of_one tag other v is apart)
restamp_case tag other stamp v false is apart none = refl

some_cond : (b c : Bool) (v w : Version) (o p : Option Version) → b ≡ c → is_some o ≡ is_some p
    → is_some (cond b (Some v) o) ≡ is_some (cond c (Some w) p)
some_cond true true v w o p same more = refl
some_cond true false v w o p same more = cc
some_cond false true v w o p same more = cc
some_cond false false v w o p same more = more

pub found_stamped : (tag other : Tag) (stamp : Stamp) (V : List Version) → same_tag other tag
    ≡ false → is_some_and (λ writer. same_tag writer other) (writer_of stamp) ≡ false
    → is_some (find (is_of other) (map (restamped tag stamp) V)) ≡ is_some (find (is_of other) V)
found_stamped tag other stamp [] apart none = refl
found_stamped tag other stamp (v ∷ V) apart none =
    some_cond _ _ (restamped tag stamp v) v _ _ (restamp_case tag other stamp v (is_of tag v) refl
    apart none) (found_stamped tag other stamp V apart none)

-- The keys.

row_case : (place : Place) (a b : Option Version) (xs ys : List (Place × Option Document))
    → is_some a ≡ is_some b → map (λ key. key.0) xs ≡ map (λ key. key.0) ys
    → map (λ key. key.0) (cons_option (option_map (λ version. (place, version.doc)) a) xs)
    ≡ map (λ key. key.0) (cons_option (option_map (λ version. (place, version.doc)) b) ys)
row_case place None None xs ys same more = more
row_case place None (Some v) xs ys same more = cc
row_case place (Some v) None xs ys same more = cc
row_case place (Some v) (Some w) xs ys same more = ap (λ (keys : List Place). place ∷ keys) more

drop_case : (tag other : Tag) (place : Place) (V W : List Version) (store rest : Versions)
    → without tag V ≡ W → find (is_of other) W ≡ find (is_of other) V
    → keys_of other rest ≡ keys_of other store
    → keys_of other (cond (is_some (first W)) ((place, W) ∷ rest) rest)
    ≡ keys_of other ((place, V) ∷ store)
drop_case tag other place V [] store rest is same more =
    row_case place None (find (is_of other) V) (written_by other rest) (written_by other store)
    (ap is_some same) more
drop_case tag other place V (w ∷ W) store rest is same more =
    row_case place (find (is_of other) (w ∷ W)) (find (is_of other) V) (written_by other rest)
    (written_by other store) (ap is_some same) more

-- after the end of another transaction
pub keys_dropped : (tag other : Tag) (store : Versions) → same_tag other tag ≡ false
    → keys_of other (dropped tag store) ≡ keys_of other store
keys_dropped tag other [] apart = refl
keys_dropped tag other (key ∷ store) apart =
    drop_case tag other key.0 key.1 (without tag key.1) store (dropped tag store) refl
    (found_without tag other key.1 apart) (keys_dropped tag other store apart)

-- after another stamp of another transaction
pub keys_stamped : (tag other : Tag) (stamp : Stamp) (store : Versions) → same_tag other tag ≡ false
    → is_some_and (λ writer. same_tag writer other) (writer_of stamp) ≡ false
    → keys_of other (stamped tag stamp store) ≡ keys_of other store
keys_stamped tag other stamp [] apart none = refl
keys_stamped tag other stamp (key ∷ store) apart none =
    row_case key.0 (find (is_of other) (map (restamped tag stamp) key.1)) (find (is_of other) key.1)
    (written_by other (stamped tag stamp store)) (written_by other store)
    (found_stamped tag other stamp key.1 apart none) (keys_stamped tag other stamp store apart none)

-- after another stamp of its own

own_case : (tag : Tag) (stamp : Stamp) (v : Version) (b : Bool) → is_of tag v ≡ b
    → is_some_and (λ writer. same_tag writer tag) (writer_of stamp) ≡ true
    → is_of tag (cond b (record { stamp = stamp; doc = v.doc }) v) ≡ is_of tag v
own_case tag stamp v true is own = own ∙ sym is
own_case tag stamp v false is own = refl

found_restamped : (tag : Tag) (stamp : Stamp) (V : List Version)
    → is_some_and (λ writer. same_tag writer tag) (writer_of stamp) ≡ true
    → is_some (find (is_of tag) (map (restamped tag stamp) V)) ≡ is_some (find (is_of tag) V)
found_restamped tag stamp [] own = refl
found_restamped tag stamp (v ∷ V) own =
    some_cond _ _ (restamped tag stamp v) v _ _ (own_case tag stamp v (is_of tag v) refl own)
    (found_restamped tag stamp V own)

pub keys_restamped : (tag : Tag) (stamp : Stamp) (store : Versions)
    → is_some_and (λ writer. same_tag writer tag) (writer_of stamp) ≡ true
    → keys_of tag (stamped tag stamp store) ≡ keys_of tag store
keys_restamped tag stamp [] own = refl
keys_restamped tag stamp (key ∷ store) own =
    row_case key.0 (find (is_of tag) (map (restamped tag stamp) key.1)) (find (is_of tag) key.1)
    (written_by tag (stamped tag stamp store)) (written_by tag store)
    (found_restamped tag stamp key.1 own) (keys_restamped tag stamp store own)
