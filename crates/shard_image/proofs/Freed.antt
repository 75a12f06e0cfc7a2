-- What the rules on order say of a record, said of the state that the records before it leave.
use Rattle.std.proofs.Common.{◌≡◌, ◌≤◌, ◌<◌, ◌&&◌, ℕ, ℤ, Bool, true, false, not, cond, List, []}
use Rattle.std.proofs.Common.{◌∷◌, map, filter, find, length, nat_lt, nat_le, Option, Some, None}
use Rattle.std.proofs.Common.{is_none, option_map, IfSome, IsSomeAnd, refl, ap, sym, subst, ◌∙◌}
use Rattle.std.proofs.Common.{arith}
use Rattle.std.specs.List.{list_any, list_all, AllByRecursion}
use Rattle.std.specs.Ordering.{is_eq}
use Rattle.txn_types.specs.Order.{same_tag, same_lsid}
use Rattle.txn_types.specs.BySession.{entry_of}
use Rattle.txn_types.specs.declared.names.Tag.{Tag}
use Rattle.txn_types.specs.declared.node.Lsid.{Lsid}
use Rattle.txn_types.specs.declared.write.Write.{Write}
use Rattle.txn_semantics.specs.Writes.{Place, place_of, place_cmp}
use Rattle.txn_semantics.proofs.Laying.{cmp_self}
use Rattle.txn_semantics.proofs.Places.{place_total, place_exact}
use Rattle.version_store.specs.Versions.{Versions, newest_of}
use Rattle.version_store.specs.declared.version.Pending.{Pending}
use Rattle.version_store.specs.declared.version.Stamp.{Stamp}
use Rattle.version_store.specs.declared.version.Stamp.TheVariants.{Unfinished, Prepared, At}
use Rattle.version_store.specs.declared.version.Version.{Version}
use Rattle.journal_rec.specs.Follows.{Standing, same_place, is_free, is_next_time, is_next_number}
use Rattle.journal_rec.specs.Follows.{is_undisturbed, rises, can_write, most_sessions, standing_of}
use Rattle.shard_image.specs.Image.{Image, ledger_of, standing_by}
use Rattle.shard_image.specs.Sound.{pending_of, IsHeld, IsFront, IsKey, Pends, IsImage}
use Rattle.shard_image.proofs.Found.{both_true, not_true, found_passes, found_holds, found_any}
use Rattle.shard_image.proofs.Found.{find_mapped, any_mapped, none_of, each_with, each_kept}
use Rattle.shard_image.proofs.Lists.{kept}
use Rattle.shard_image.proofs.Fronts.{own_tag, tag_is, IsOpenFront, IsOpenKey}
use Rattle.shard_image.proofs.Stores.{of_tag, keys_kept, keys_are}

pub own_place : (place : Place) → same_place place place ≡ true
own_place place = ap is_eq (cmp_self place_cmp place_total place_exact place)

pub all_of : {A : Type 0} (p : A → Bool) (xs : List A) → list_all p xs ≡ true
    → AllByRecursion (λ x. p x ≡ true) xs
all_of p [] h = tt
all_of p (x ∷ xs) h = let e = both_true (p x) (list_all p xs) h in (e.0, all_of p xs e.1)

each_all : {A T : Type 0} (P : T → A → Type 0) (xs : List A) → ((t : T) → AllByRecursion (P t) xs)
    → AllByRecursion (λ x. (t : T) → P t x) xs
each_all P [] h = tt
each_all P (x ∷ xs) h = (λ t. (h t).0, each_all P xs (λ t. (h t).1))

-- none is found where none passes
none_found_case : {A : Type 0} (p : A → Bool) (x : A) (xs : List A) (b : Bool)
    → cond b (Some x) (find p xs) ≡ None → (b ≡ false) × (find p xs ≡ None)
none_found_case p x xs true h = cc
none_found_case p x xs false h = (refl, h)

pub none_found : {A : Type 0} (p : A → Bool) (xs : List A) → find p xs ≡ None
    → AllByRecursion (λ x. p x ≡ false) xs
none_found p [] h = tt
none_found p (x ∷ xs) h = let e = none_found_case p x xs (p x) h in (e.0, none_found p xs e.1)

-- What is free.

pub not_below : (a b : ℕ) → nat_lt a b ≡ false → b ≤ a
not_below a b h = grind arith

-- the newest commit of a row passes no test that no newest commit passes; nor does a version of a
-- transaction
abbrev NoneNewest : Versions → (Place × List Version) → Type 0
NoneNewest store row = (test : Place × ℕ → Bool) → list_any test (kept newest_of store) ≡ false
    → IfSome (newest_of row.1) (λ b. test (row.0, b) ≡ false)

abbrev NoneOf : Versions → Tag → (Place × List Version) → Type 0
NoneOf store t row = (test : Place × Version → Bool) → list_any test (kept (of_tag t) store) ≡ false
    → IfSome (of_tag t row.1) (λ b. test (row.0, b) ≡ false)

-- the place is among the keys of a transaction that has a version there
held_place : (store : Versions) (t : Tag) (place : Place) (rest : List Version) (v : Version)
    (b : Bool) → of_tag t (v ∷ rest) ≡ Some v → NoneOf store t (place, v ∷ rest)
    → list_any (λ (x : Place × Version). same_place place x.0) (kept (of_tag t) store) ≡ b
    → b ≡ true
held_place store t place rest v true is none any = refl
held_place store t place rest v false is none any =
    let e : same_place place place ≡ false =
    rw is at (none (λ (x : Place × Version). same_place place x.0) any) in
    let same = own_place place in
    cc

module _ (i : Image) (h : IsImage i) (read_at : ℕ) where
  abbrev holds_place : Place → Pending → Bool
  holds_place place q = list_any (same_place place) q.keys

  prepared_place : (place : Place) (t : Tag) (since : ℕ) (rest : List Version)
      (v : Version) (found : Option Pending) → pending_of i.pending t ≡ found
      → IsSomeAnd found (IsHeld i.sessions since rest)
      → of_tag t (v ∷ rest) ≡ Some v → NoneOf i.store t (place, v ∷ rest)
      → list_any (holds_place place) i.pending ≡ true
  prepared_place place t since rest v None is held own none = absurd held
  prepared_place place t since rest v (Some q) is held own none =
      let pends = found_holds (λ (q : Pending). same_tag q.tag t) (Pends i.pending i.sessions
      i.store) i.pending q h.pending is in
      let tag : q.tag ≡ t =
      tag_is q.tag t (found_passes (λ (q : Pending). same_tag q.tag t) i.pending q is) in
      let keys : keys_kept (of_tag t) i.store ≡ q.keys = sym (keys_are t i.store)
      ∙ rw (← tag) pends.2.keys in
      let any = held_place i.store t place rest v (list_any (λ (x : Place × Version).
      same_place place x.0) (kept (of_tag t) i.store)) own none refl in
      let there : list_any (same_place place) q.keys ≡ true =
      ap (list_any (same_place place)) (sym keys) ∙ any_mapped (same_place place)
      (λ (x : Place × Version). x.0) (kept (of_tag t) i.store) ∙ any in
      found_any (λ (q : Pending). same_tag q.tag t) (holds_place place) i.pending q is there

  free_parts : (place : Place) → is_free (ledger_of i) read_at place ≡ true
      → (list_any (holds_place place) i.pending ≡ false) × (list_any (λ (key : Place × ℕ).
      same_place place key.0 && nat_lt read_at key.1) (kept newest_of i.store) ≡ false)
  free_parts place is =
      let e = both_true _ _ is in (
        sym (any_mapped (λ (s : Standing). list_any (same_place place) s.places)
            (standing_by i.sessions) i.pending) ∙ not_true _ e.0,
        not_true _ e.1,
      )

  open_front : (place : Place) (stamp : Stamp) (rest : List Version) (v : Version) → v.stamp ≡ stamp
      → IsFront i.pending i.sessions rest stamp → NoneNewest i.store (place, v ∷ rest)
      → ((t : Tag) → NoneOf i.store t (place, v ∷ rest))
      → is_free (ledger_of i) read_at place ≡ true → IsOpenFront read_at stamp
  open_front place (Unfinished t) rest v e front newest none is = tt
  open_front place (Prepared t since) rest v e front newest none is =
      let own : of_tag t (v ∷ rest) ≡ Some v = rw (e, own_tag t) refl in
      let there =
      prepared_place place t since rest v (pending_of i.pending t) refl front own (none t) in
      let not_there = (free_parts place is).0 in
      cc
  open_front place (At c) rest v e front newest none is =
      let n : newest_of (v ∷ rest) ≡ Some c = rw e refl in
      let low : (same_place place place && nat_lt read_at c) ≡ false =
      rw n at (newest (λ (key : Place × ℕ). same_place place key.0 && nat_lt read_at key.1)
      (free_parts place is).1) in
      not_below read_at c (rw (own_place place) at low)

  open_key : (place : Place) (versions : List Version) → IsKey i.pending i.sessions versions
      → NoneNewest i.store (place, versions) → ((t : Tag) → NoneOf i.store t (place, versions))
      → is_free (ledger_of i) read_at place ≡ true → IsOpenKey read_at versions
  open_key place [] key newest none is = tt
  open_key place (v ∷ rest) key newest none is =
      open_front place v.stamp rest v refl key newest none is

  -- where a place is free, its key is
  pub opens : AllByRecursion (λ row. is_free (ledger_of i) read_at row.0 ≡ true
      → IsOpenKey read_at row.1) i.store
  opens =
      let newest = each_kept newest_of (kept newest_of i.store) i.store (λ test none. none) in
      let none = each_all (NoneOf i.store) i.store (λ t.
      each_kept (of_tag t) (kept (of_tag t) i.store) i.store (λ test none. none)) in
      let both = each_with (λ (row : Place × List Version). IsKey i.pending i.sessions
      row.1) (NoneNewest i.store) (λ row. IsKey i.pending i.sessions row.1
      × NoneNewest i.store row) i.store (λ row a b. (a, b)) h.keys newest in
      each_with (λ (row : Place × List Version). IsKey i.pending i.sessions row.1
      × NoneNewest i.store row) (λ row. (t : Tag) → NoneOf i.store t row)
      (λ row. is_free (ledger_of i) read_at row.0 ≡ true → IsOpenKey read_at row.1) i.store
      (λ row a b. open_key row.0 row.1 a.0 a.1 b) both none

-- What a transaction that can commit or prepare finds.

pub record Writes (i : Image) (tag : Tag) (lsid : Lsid) (number : ℤ) (read_at at : ℕ)
    (writes : List Write) : Type 0 where
  pub later : read_at < at
  pub room : length (filter (λ entry. not (same_lsid lsid entry.0)) i.sessions.entries)
      < most_sessions
  pub nobody : AllByRecursion (λ q. same_lsid q.lsid lsid ≡ false) i.pending
  pub new : pending_of i.pending tag ≡ None
  pub free : AllByRecursion (λ write. is_free (ledger_of i) read_at (place_of write) ≡ true) writes

length_mapped_case : {A B : Type 0} (p : B → Bool) (f : A → B) (x : A) (xs : List A) (b : Bool)
    → length (filter p (map f xs)) ≡ length (filter (λ x. p (f x)) xs)
    → length (cond b (f x ∷ filter p (map f xs)) (filter p (map f xs)))
    ≡ length (cond b (x ∷ filter (λ x. p (f x)) xs) (filter (λ x. p (f x)) xs))
length_mapped_case p f x xs true more = omega (arith, more)
length_mapped_case p f x xs false more = more

pub length_mapped : {A B : Type 0} (p : B → Bool) (f : A → B) (xs : List A)
    → length (filter p (map f xs)) ≡ length (filter (λ x. p (f x)) xs)
length_mapped p f [] = refl
length_mapped p f (x ∷ xs) = length_mapped_case p f x xs (p (f x)) (length_mapped p f xs)

pub is_below : (a b : ℕ) → nat_lt a b ≡ true → a < b
is_below a b h = grind arith

none_mapped : {A B : Type 0} (f : A → B) (o : Option A) → is_none (option_map f o) ≡ true → o ≡ None
none_mapped f None h = refl
none_mapped f (Some x) h = cc

pub can_writes : (i : Image) (tag : Tag) (lsid : Lsid) (number : ℤ) (read_at at : ℕ)
    (writes : List Write) → can_write (ledger_of i) tag lsid number read_at at writes ≡ true
    → Writes i tag lsid number read_at at writes
can_writes i tag lsid number read_at at writes can =
    let l = ledger_of i in
    let all = both_true (is_next_time l read_at at && is_next_number l lsid number && is_undisturbed
    l lsid tag) (list_all (λ write. is_free l read_at (place_of write)) writes) can in
    let undisturbed = both_true (is_next_time l read_at at
    && is_next_number l lsid number) (is_undisturbed l lsid tag) all.0 in
    let numbers =
    both_true (is_next_time l read_at at) (is_next_number l lsid number) undisturbed.0 in
    let times =
    both_true (nat_le at l.ceiling && nat_lt read_at at) (nat_lt l.greatest at) numbers.0 in
    let later = both_true (nat_le at l.ceiling) (nat_lt read_at at) times.0 in
    let room = both_true (rises number (entry_of lsid l.numbers)) (nat_lt (length
    (filter (λ entry. not (same_lsid lsid entry.0)) l.numbers)) most_sessions) numbers.1 in
    let apart = both_true (not (list_any (λ (s : Standing). same_lsid s.lsid lsid) l.standing))
    (is_none (standing_of l tag)) undisturbed.1 in
    record {
      later = is_below read_at at later.1;
      room = subst (λ (n : ℕ). n < most_sessions) (length_mapped
          (λ (entry : Lsid × ℤ). not (same_lsid lsid entry.0)) (λ entry. (entry.0, entry.1.number))
          i.sessions.entries) (is_below _ most_sessions room.1);
      nobody = none_of (λ (q : Pending). same_lsid q.lsid lsid) i.pending (sym
          (any_mapped (λ (s : Standing). same_lsid s.lsid lsid) (standing_by i.sessions) i.pending)
          ∙ not_true _ apart.0);
      new = none_mapped (standing_by i.sessions) (pending_of i.pending tag) (ap is_none (sym
          (find_mapped (λ (s : Standing). same_tag s.tag tag) (standing_by i.sessions) i.pending))
          ∙ apart.1);
      free = all_of (λ write. is_free l read_at (place_of write)) writes all.1;
    }
