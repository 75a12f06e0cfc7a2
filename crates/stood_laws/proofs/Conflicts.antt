-- What stands against a write: another transaction's version of the document.
use Rattle.std.proofs.Common.{◌≡◌, inl, inr, ◌||◌, ℕ, Bool, true, false, List, [], ◌∷◌}
use Rattle.std.proofs.Common.{Option, Some, None, option_map, option_and_then, refl, ap, subst, ◌∙◌}
use Rattle.std.proofs.Common.{sym, nat_lt, filter_map, find, unwrap_or, if◌then◌else◌}
use Rattle.std.specs.List.{list_any}
use Rattle.std.specs.Option.{option_or}
use Rattle.std.specs.Ordering.{is_eq}
use Rattle.txn_types.proofs.Orders.{id_total, id_exact}
use Rattle.txn_types.specs.Order.{same_id, same_tag, id_cmp}
use Rattle.txn_types.specs.declared.cause.By.{By}
use Rattle.txn_types.specs.declared.cause.By.TheVariants as by
use Rattle.txn_types.specs.declared.id.Id.{Id}
use Rattle.txn_types.specs.declared.names.Tag.{Tag}
use Rattle.txn_types.specs.declared.write.Write.{Write}
use Rattle.txn_semantics.proofs.Places.{place_total, place_exact}
use Rattle.txn_semantics.specs.Writes.{Place, place_of, place_cmp}
use Rattle.version_store.specs.Versions.{Versions, first, against, conflict, versions_of, is_of}
use Rattle.version_store.specs.Versions.{other_writer_of, writer_of, newest_of, commit_above}
use Rattle.version_store.specs.declared.version.Version.{Version}
use Rattle.participant.proofs.Tags.{tag_self}
use Rattle.part_laws.specs.Each.{Among}
use Rattle.part_laws.proofs.Looking.{eq_self, eq_exact}
use Rattle.cluster_core.specs.Causes.{has_version}

-- one of the writes is of the document, and it meets this
pub record Meets (store : Versions) (at : ℕ) (tag : Tag) (writes : List Write) (id : Id)
    (why : By) : Type 0 where
  pub write : Write
  pub among : Among write writes
  pub id_is : (place_of write).1 ≡ id
  pub meets : against at tag (versions_of store (place_of write)) ≡ Some why

pub none_some : {A : Type 0} (x : A) → None ≡ Some x → ⊥
none_some x h = cc

pub one_some : {A : Type 0} (x y : A) → Some x ≡ Some y → x ≡ y
one_some x y h = cc

same_found : (a c : Id × By) → a ≡ c → (a.0 ≡ c.0) × (a.1 ≡ c.1)
same_found a c h = (ap (λ (x : Id × By). x.0) h, ap (λ (x : Id × By). x.1) h)

abbrev with_found : {A : Type 0} → Option A → List A → List A
with_found None found = found
with_found (Some a) found = a ∷ found

abbrev at_write : Versions → ℕ → Tag → Write → Option (Id × By)
at_write store at tag write = option_map (λ why. ((place_of write).1, why))
    (against at tag (versions_of store (place_of write)))

meets_case : (store : Versions) (at : ℕ) (tag : Tag) (write : Write) (writes : List Write) (id : Id)
    (why : By) (o : Option By) → against at tag (versions_of store (place_of write)) ≡ o
    → (conflict store at tag writes ≡ Some (id, why) → Meets store at tag writes id why)
    → conflict store at tag (write ∷ writes) ≡ Some (id, why)
    → Meets store at tag (write ∷ writes) id why
meets_case store at tag write writes id why None is more h =
    let none : at_write store at tag write ≡ None =
    ap (option_map (λ (w : By). ((place_of write).1, w))) is in
    let rest : conflict store at tag writes ≡ Some (id, why) =
    sym (ap (λ (o : Option (Id × By)). first (with_found o
    (filter_map (at_write store at tag) writes))) none) ∙ h in
    let m = more rest in
    record { write = m.write; among = inr m.among; id_is = m.id_is; meets = m.meets }
meets_case store at tag write writes id why (Some w) is more h =
    let some : ◌≡◌ {A = Option (Id × By)} (at_write store at tag write)
    (Some ((place_of write).1, w)) =
    ap (option_map (λ (w : By). ((place_of write).1, w))) is in
    let both : ◌≡◌ {A = Option (Id × By)} (Some ((place_of write).1, w)) (Some (id, why)) =
    sym (ap (λ (o : Option (Id × By)). first (with_found o
    (filter_map (at_write store at tag) writes))) some) ∙ h in
    let same = same_found ((place_of write).1, w) (id, why)
    (one_some ((place_of write).1, w) (id, why) both) in
    record { write = write; among = inl refl; id_is = same.0; meets = is ∙ ap Some same.1 }

pub meets : (store : Versions) (at : ℕ) (tag : Tag) (writes : List Write) (id : Id) (why : By)
    → conflict store at tag writes ≡ Some (id, why) → Meets store at tag writes id why
meets store at tag [] id why h = absurd (none_some (id, why) h)
meets store at tag (write ∷ writes) id why h =
    meets_case store at tag write writes id why
    (against at tag (versions_of store (place_of write))) refl
    (λ k. meets store at tag writes id why k) h

-- The other transaction has a version there.

or_one : (a b : Bool) → a ≡ true → (a || b) ≡ true
or_one true b h = refl
or_one false b h = cc

or_other : (a b : Bool) → b ≡ true → (a || b) ≡ true
or_other true b h = refl
or_other false b h = h

writer_case : (tag other : Tag) (v : Version) (o : Option Tag) → writer_of v.stamp ≡ o
    → option_and_then (λ (writer : Tag). if same_tag writer tag then None else Some writer) o
    ≡ Some other → is_of other v ≡ true
writer_case tag other v None is h = let wrong : None ≡ Some other = h in cc
writer_case tag other v (Some w) is h =
    let same : w ≡ other = else_case (same_tag w tag) h in
    rw (is, same) (tag_self other)
  where
    else_case : (b : Bool) → (if b then None else Some w) ≡ Some other → w ≡ other
    else_case true h = let wrong : None ≡ Some other = h in cc
    else_case false h = cc

writers_case : (tag other : Tag) (v : Version) (vs : List Version) (o : Option Tag)
    → other_writer_of tag v ≡ o
    → (first (filter_map (other_writer_of tag) vs) ≡ Some other
    → list_any (is_of other) vs ≡ true)
    → first (with_found o (filter_map (other_writer_of tag) vs)) ≡ Some other
    → list_any (is_of other) (v ∷ vs) ≡ true
writers_case tag other v vs None is more h =
    or_other (is_of other v) (list_any (is_of other) vs) (more h)
writers_case tag other v vs (Some w) is more h =
    or_one (is_of other v) (list_any (is_of other) vs)
    (writer_case tag other v (writer_of v.stamp) refl (is ∙ h))

writers : (tag other : Tag) (vs : List Version)
    → first (filter_map (other_writer_of tag) vs) ≡ Some other → list_any (is_of other) vs ≡ true
writers tag other [] h = let wrong : None ≡ Some other = h in cc
writers tag other (v ∷ vs) h =
    writers_case tag other v vs (other_writer_of tag v) refl (writers tag other vs) h

abbrev by_tag : Option Tag → Option By
by_tag o = option_map (λ writer. by.Tag writer) o

no_time : (at commit : ℕ) (other : Tag) → commit_above at commit ≡ Some (by.Tag other) → ⊥
no_time at commit other h = time_case (nat_lt at commit) h
  where
    time_case : (b : Bool) → (if b then Some (by.At commit) else None) ≡ Some (by.Tag other) → ⊥
    time_case true h = cc
    time_case false h = let wrong : None ≡ Some (by.Tag other) = h in cc

against_tag : (at : ℕ) (o : Option Tag) (n : Option ℕ) (other : Tag)
    → option_or (by_tag o) (option_and_then (commit_above at) n) ≡ Some (by.Tag other)
    → o ≡ Some other
against_tag at None None other h = let wrong : None ≡ Some (by.Tag other) = h in cc
against_tag at None (Some commit) other h = absurd (no_time at commit other h)
against_tag at (Some w) n other h = tag_case h
  where
    tag_case : Some (by.Tag w) ≡ Some (by.Tag other) → Some w ≡ Some other
    tag_case h = cc

key_case : (other : Tag) (place : Place) (key : Place × List Version) (store : Versions) (b : Bool)
    → is_eq (place_cmp place key.0) ≡ b
    → (list_any (is_of other) (versions_of store place) ≡ true
    → has_version place.1 other store ≡ true)
    → list_any (is_of other) (versions_of (key ∷ store) place) ≡ true
    → has_version place.1 other (key ∷ store) ≡ true
key_case other place key store true is more h =
    let same : place ≡ key.0 = eq_exact place_cmp place_total place_exact place key.0 is in
    let here : list_any (is_of other) key.1 ≡ true =
    ap (λ b. list_any (is_of other) (unwrap_or (option_map (λ (k : Place × List Version). k.1)
    (if b then Some key else find (λ (k : Place × List Version). is_eq (place_cmp place k.0))
    store)) [])) (sym is) ∙ h in
    let id : same_id key.0.1 place.1 ≡ true =
    subst (λ (p : Place). same_id p.1 place.1 ≡ true) same
    (eq_self id_cmp id_total id_exact place.1) in
    or_one (if same_id key.0.1 place.1 then list_any (is_of other) key.1 else false)
    (has_version place.1 other store)
    (ap (λ b. if b then list_any (is_of other) key.1 else false) id ∙ here)
key_case other place key store false is more h =
    let rest : list_any (is_of other) (versions_of store place) ≡ true =
    ap (λ b. list_any (is_of other) (unwrap_or (option_map (λ (k : Place × List Version). k.1)
    (if b then Some key else find (λ (k : Place × List Version). is_eq (place_cmp place k.0))
    store)) [])) (sym is) ∙ h in
    or_other (if same_id key.0.1 place.1 then list_any (is_of other) key.1 else false)
    (has_version place.1 other store) (more rest)

any_there : (other : Tag) (place : Place) (store : Versions)
    → list_any (is_of other) (versions_of store place) ≡ true
    → has_version place.1 other store ≡ true
any_there other place [] h = let wrong : false ≡ true = h in cc
any_there other place (key ∷ store) h =
    key_case other place key store (is_eq (place_cmp place key.0)) refl
    (any_there other place store) h

pub conflict_has_version : (store : Versions) (at : ℕ) (tag : Tag) (writes : List Write) (id : Id)
    (other : Tag) → conflict store at tag writes ≡ Some (id, by.Tag other)
    → has_version id other store ≡ true
conflict_has_version store at tag writes id other h =
    let m = meets store at tag writes id (by.Tag other) h in
    let place : Place = place_of m.write in
    let w : first (filter_map (other_writer_of tag) (versions_of store place)) ≡ Some other =
    against_tag at (first (filter_map (other_writer_of tag) (versions_of store place)))
    (newest_of (versions_of store place)) other m.meets in
    subst (λ (i : Id). has_version i other store ≡ true) m.id_is
    (any_there other place store (writers tag other (versions_of store place) w))
