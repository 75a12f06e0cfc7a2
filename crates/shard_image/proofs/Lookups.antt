-- What stands against a write in the state that records leave, and a write that is taken back.
use Rattle.std.proofs.Common.{◌≡◌, ◌&&◌, ◌||◌, ℕ, Bool, true, false, not, cond, List, [], ◌∷◌, map}
use Rattle.std.proofs.Common.{filter, find, nat_lt, Option, Some, None, is_some, is_none, unwrap_or}
use Rattle.std.proofs.Common.{option_map, IsSomeAnd, if◌then◌else◌, refl, ap, sym, subst, ◌∙◌}
use Rattle.std.specs.List.{filter_map, cons_option, list_any, AllByRecursion}
use Rattle.std.specs.Option.{option_or}
use Rattle.std.specs.Ordering.{is_eq}
use Rattle.std.specs.declared.cmp.Ordering.{Ordering}
use Rattle.std.specs.declared.cmp.Ordering.TheVariants.{Less, Equal, Greater}
use Rattle.bson_core.specs.Fields.{Document}
use Rattle.txn_types.specs.Order.{same_tag}
use Rattle.txn_types.specs.declared.cause.By.TheVariants as reason
use Rattle.txn_types.specs.declared.names.Tag.{Tag}
use Rattle.txn_types.specs.declared.write.Write.{Write}
use Rattle.txn_semantics.specs.Keyed.{AllAbove, Rises}
use Rattle.txn_semantics.specs.Writes.{Place, place_of, place_cmp}
use Rattle.txn_semantics.proofs.Laying.{above_trans}
use Rattle.txn_semantics.proofs.Places.{place_total, place_exact}
use Rattle.session_table.specs.Sessions.{Table}
use Rattle.version_store.specs.Versions.{Versions, FallBelow, is_some_and, is_of, versions_of}
use Rattle.version_store.specs.Versions.{newest_of, other_writer_of, against, conflict, without}
use Rattle.version_store.specs.Versions.{with_write, with_writes, dropped, has_versions, content_of}
use Rattle.version_store.specs.declared.version.Pending.{Pending}
use Rattle.version_store.specs.declared.version.Stamp.{Stamp}
use Rattle.version_store.specs.declared.version.Stamp.TheVariants.{Unfinished, Prepared, At}
use Rattle.version_store.specs.declared.version.Version.{Version}
use Rattle.journal_rec.specs.Follows.{Standing, same_place, is_free}
use Rattle.shard_image.specs.Image.{Image, ledger_of, standing_by}
use Rattle.shard_image.specs.Sound.{pending_of, IsHeld, IsFront, IsKey, Pends, IsImage}
use Rattle.shard_image.proofs.Found.{found_passes, found_any, any_mapped}
use Rattle.shard_image.proofs.Lists.{kept}
use Rattle.shard_image.proofs.Changing.{changed_at}
use Rattle.shard_image.proofs.Fronts.{own_tag, tag_is, wrote, falls_at}
use Rattle.shard_image.proofs.Stores.{of_tag, keys_kept, keys_are, write_changes, rises_write}
use Rattle.shard_image.proofs.Stores.{none_own}
use Rattle.shard_image.proofs.Freed.{none_found}

pub any_same : {A : Type 0} (p q : A → Bool) → ((x : A) → p x ≡ q x) → (xs : List A)
    → list_any p xs ≡ list_any q xs
any_same p q same [] = refl
any_same p q same (x ∷ xs) = rw (same x) (ap (λ (b : Bool). q x || b) (any_same p q same xs))

pub any_each : {A : Type 0} (p q : A → Bool) (xs : List A) → AllByRecursion (λ x. p x ≡ q x) xs
    → list_any p xs ≡ list_any q xs
any_each p q [] all = refl
any_each p q (x ∷ xs) all = rw all.0 (ap (λ (b : Bool). q x || b) (any_each p q xs all.1))

any_none : {A : Type 0} (p : A → Bool) (xs : List A) → AllByRecursion (λ x. p x ≡ false) xs
    → list_any p xs ≡ false
any_none p [] all = refl
any_none p (x ∷ xs) all = rw all.0 (any_none p xs all.1)

or_none : (b : Bool) → (b || false) ≡ b
or_none true = refl
or_none false = refl

and_all : (b : Bool) → (b && true) ≡ b
and_all true = refl
and_all false = refl

-- What is kept of a place is what is kept of its versions.
module _ {B : Type 0} (g : List Version → Option B) (nothing : g [] ≡ None) (test : B → Bool) where
  abbrev matches_at : Place → Place × B → Bool
  matches_at place x = same_place place x.0 && test x.1

  none_here : (place : Place) (row : Place × List Version) (o : Option B) (rows : List (Place × B))
      → place_cmp place row.0 ≡ Less → list_any (matches_at place) rows ≡ false
      → list_any (matches_at place) (cons_option (option_map (λ b. (row.0, b)) o) rows) ≡ false
  none_here place row None rows is more = more
  none_here place row (Some b) rows is more = rw is more

  none_above : (place : Place) (store : Versions) → AllAbove place_cmp place store
      → list_any (matches_at place) (kept g store) ≡ false
  none_above place [] above = refl
  none_above place (row ∷ store) above =
      none_here place row (g row.1) (kept g store) above.0 (none_above place store above.1)

  found_above : (place : Place) (store : Versions) → AllAbove place_cmp place store
      → find (λ key. is_eq (place_cmp place key.0)) store ≡ None
  found_above place [] above = refl
  found_above place (row ∷ store) above = rw above.0 (found_above place store above.1)

  equal_here : (place : Place) (row : Place × List Version) (o : Option B) (rows : List (Place × B))
      → place_cmp place row.0 ≡ Equal → list_any (matches_at place) rows ≡ false
      → list_any (matches_at place) (cons_option (option_map (λ b. (row.0, b)) o) rows)
      ≡ is_some_and test o
  equal_here place row None rows is more = more
  equal_here place row (Some b) rows is more = rw (is, more) (or_none (test b))

  greater_here : (place : Place) (row : Place
      × List Version) (o : Option B) (rows : List (Place × B)) → place_cmp place row.0 ≡ Greater
      → list_any (matches_at place) (cons_option (option_map (λ b. (row.0, b)) o) rows)
      ≡ list_any (matches_at place) rows
  greater_here place row None rows is = refl
  greater_here place row (Some b) rows is = rw is refl

  abbrev versions_by : Place → (Place × List Version) → Versions → Ordering → List Version
  versions_by place row store o = unwrap_or (option_map (λ key. key.1)
      (cond (is_eq o) (Some row) (find (λ key. is_eq (place_cmp place key.0)) store))) []

  looked_case : (place : Place) (row : Place × List Version) (store : Versions) (o : Ordering)
      → place_cmp place row.0 ≡ o → Rises place_cmp (row ∷ store)
      → list_any (matches_at place) (kept g store) ≡ is_some_and test (g (versions_of store place))
      → list_any (matches_at place) (kept g (row ∷ store))
      ≡ is_some_and test (g (versions_by place row store o))
  looked_case place row store Less is r more =
      let above = above_trans place_cmp place_total place_exact place row.0 store is r.0 in
      none_here place row (g row.1) (kept g store) is (none_above place store above)
      ∙ sym (ap (λ (f : Option (Place × List Version)). is_some_and test
      (g (unwrap_or (option_map (λ key. key.1) f) []))) (found_above place store above)
      ∙ ap (is_some_and test) nothing)
  looked_case place row store Equal is r more =
      let above : AllAbove place_cmp place store = subst (λ (k : Place).
      AllAbove place_cmp k store) (sym (place_exact place row.0 is)) r.0 in
      equal_here place row (g row.1) (kept g store) is (none_above place store above)
  looked_case place row store Greater is r more =
      greater_here place row (g row.1) (kept g store) is ∙ more

  pub looked : (place : Place) (store : Versions) → Rises place_cmp store
      → list_any (matches_at place) (kept g store) ≡ is_some_and test (g (versions_of store place))
  looked place [] r = ap (is_some_and test) (sym nothing)
  looked place (row ∷ store) r =
      looked_case place row store (place_cmp place row.0) refl r (looked place store r.1)

some_and : {A : Type 0} (o : Option A) → is_some_and (λ _. true) o ≡ is_some o
some_and None = refl
some_and (Some a) = refl

-- a place is among the keys of a transaction where it has a version there
pub key_held : (tag : Tag) (place : Place) (store : Versions) → Rises place_cmp store
    → list_any (same_place place) (keys_kept (of_tag tag) store)
    ≡ is_some (of_tag tag (versions_of store place))
key_held tag place store r =
    any_mapped (same_place place) (λ (x : Place × Version). x.0) (kept (of_tag tag) store)
    ∙ any_same (λ (x : Place × Version). same_place place x.0) (λ x. same_place place x.0 && true)
    (λ x. sym (and_all (same_place place x.0))) (kept (of_tag tag) store)
    ∙ looked (of_tag tag) refl (λ _. true) place store r
    ∙ some_and (of_tag tag (versions_of store place))

-- the versions of a place stand, where there are some
abbrev pub MayStand : List Pending → Table → List Version → Type 0
MayStand pending sessions [] = Unit {0}
MayStand pending sessions (v ∷ rest) = IsFront pending sessions rest v.stamp

may_stand : (pending : List Pending) (sessions : Table) (versions : List Version)
    → IsKey pending sessions versions → MayStand pending sessions versions
may_stand pending sessions [] h = tt
may_stand pending sessions (v ∷ rest) h = h

stands_case : (pending : List Pending) (sessions : Table) (place : Place) (row : Place
    × List Version) (store : Versions) (b : Bool) → IsKey pending sessions row.1
    → MayStand pending sessions (versions_of store place)
    → MayStand pending sessions (unwrap_or (option_map (λ key. key.1)
    (cond b (Some row) (find (λ key. is_eq (place_cmp place key.0)) store))) [])
stands_case pending sessions place row store true here more = may_stand pending sessions row.1 here
stands_case pending sessions place row store false here more = more

pub stands_at : (pending : List Pending) (sessions : Table) (place : Place) (store : Versions)
    → AllByRecursion (λ row. IsKey pending sessions row.1) store
    → MayStand pending sessions (versions_of store place)
stands_at pending sessions place [] all = tt
stands_at pending sessions place (row ∷ store) all = stands_case pending sessions place row store
    (is_eq (place_cmp place row.0)) all.0 (stands_at pending sessions place store all.1)

-- What stands against a write.

no_writers : (tag : Tag) (at : ℕ) (versions : List Version) → FallBelow at versions
    → filter_map (other_writer_of tag) versions ≡ []
no_writers tag at [] h = refl
no_writers tag at (v ∷ versions) h = let f = falls_at at v.stamp versions h in
    rw f.is (no_writers tag f.commit versions f.rest)

none_of_tag : (t : Tag) (at : ℕ) (versions : List Version) → FallBelow at versions
    → of_tag t versions ≡ None
none_of_tag t at [] h = refl
none_of_tag t at (v ∷ versions) h = let f = falls_at at v.stamp versions h in
    rw f.is (none_of_tag t f.commit versions f.rest)

above_case : (test : Bool) (at : ℕ)
    → not test ≡ is_none (option_or None (if test then Some (reason.At at) else None))
above_case true at = refl
above_case false at = refl

-- a prepared transaction holds the place, and is another one
prepared_against : (i : Image) (h : IsImage i) (tag : Tag) (read_at since : ℕ) (t : Tag)
    (doc : Option Document) (rest : List Version) (found : Option Pending) (b : Bool)
    → pending_of i.pending t ≡ found → same_tag t tag ≡ b → pending_of i.pending tag ≡ None
    → IsSomeAnd found (IsHeld i.sessions since rest)
    → (not (list_any (λ (q : Pending). is_some (of_tag q.tag
    (record { stamp = Prepared t since; doc = doc } ∷ rest))) i.pending) && not (is_some_and
    (nat_lt read_at) (newest_of (record { stamp = Prepared t since; doc = doc } ∷ rest))))
    ≡ is_none (against read_at tag (record { stamp = Prepared t since; doc = doc } ∷ rest))
prepared_against i h tag read_at since t doc rest None b is same new held = absurd held
prepared_against i h tag read_at since t doc rest (Some q) true is same new held =
    let e : pending_of i.pending t ≡ None = rw (tag_is t tag same) new in cc
prepared_against i h tag read_at since t doc rest (Some q) false is same new held =
    let own : q.tag ≡ t =
    tag_is q.tag t (found_passes (λ (q : Pending). same_tag q.tag t) i.pending q is) in
    let has : is_some (of_tag q.tag (record { stamp = Prepared t since; doc = doc } ∷ rest))
    ≡ true = rw (own, own_tag t) refl in
    let any = found_any (λ (q : Pending). same_tag q.tag t) (λ (q : Pending). is_some (of_tag q.tag
    (record { stamp = Prepared t since; doc = doc } ∷ rest))) i.pending q is has in
    rw (any, same) refl

each_none : (pending : List Pending) (at : ℕ) (versions : List Version) → FallBelow at versions
    → AllByRecursion (λ (q : Pending). is_some (of_tag q.tag versions) ≡ false) pending
each_none [] at versions h = tt
each_none (q ∷ pending) at versions h =
    (ap is_some (none_of_tag q.tag at versions h), each_none pending at versions h)

none_at_all : (pending : List Pending)
    → list_any (λ (q : Pending). is_some (of_tag q.tag [])) pending ≡ false
none_at_all [] = refl
none_at_all (q ∷ pending) = none_at_all pending

each_held : (i : Image) (place : Place) (pending : List Pending) → Rises place_cmp i.store
    → AllByRecursion (Pends i.pending i.sessions i.store) pending
    → AllByRecursion (λ (q : Pending). list_any (same_place place) q.keys
    ≡ is_some (of_tag q.tag (versions_of i.store place))) pending
each_held i place [] r all = tt
each_held i place (q ∷ pending) r all = (
  ap (list_any (same_place place)) (sym all.0.2.keys ∙ keys_are q.tag i.store)
      ∙ key_held q.tag place i.store r,
  each_held i place pending r all.1,
)

free_front : (i : Image) (h : IsImage i) (tag : Tag) (read_at : ℕ) (stamp : Stamp)
    (doc : Option Document) (rest : List Version) → pending_of i.pending tag ≡ None
    → IsFront i.pending i.sessions rest stamp
    → (not (list_any (λ (q : Pending).
    is_some (of_tag q.tag (record { stamp = stamp; doc = doc } ∷ rest))) i.pending) && not
    (is_some_and (nat_lt read_at) (newest_of (record { stamp = stamp; doc = doc } ∷ rest))))
    ≡ is_none (against read_at tag (record { stamp = stamp; doc = doc } ∷ rest))
free_front i h tag read_at (Unfinished t) doc rest new front = absurd front
free_front i h tag read_at (Prepared t since) doc rest new front = prepared_against i h tag read_at
    since t doc rest (pending_of i.pending t) (same_tag t tag) refl refl new front
free_front i h tag read_at (At c) doc rest new front =
    let none : list_any (λ (q : Pending). is_some (of_tag q.tag rest)) i.pending ≡ false =
    any_none _ i.pending (each_none i.pending c rest front) in
    rw (none, no_writers tag c rest front) (above_case (nat_lt read_at c) c)

free_versions : (i : Image) (h : IsImage i) (tag : Tag) (read_at : ℕ) (versions : List Version)
    → pending_of i.pending tag ≡ None → MayStand i.pending i.sessions versions
    → (not (list_any (λ (q : Pending). is_some (of_tag q.tag versions)) i.pending)
    && not (is_some_and (nat_lt read_at) (newest_of versions)))
    ≡ is_none (against read_at tag versions)
free_versions i h tag read_at [] new stands = rw (none_at_all i.pending) refl
free_versions i h tag read_at (v ∷ rest) new stands =
    free_front i h tag read_at v.stamp v.doc rest new stands

-- a place is free where nothing stands against a write there of a transaction that isn't prepared
pub free_is : (i : Image) (h : IsImage i) (tag : Tag) (read_at : ℕ) (place : Place)
    → pending_of i.pending tag ≡ None → is_free (ledger_of i) read_at place
    ≡ is_none (against read_at tag (versions_of i.store place))
free_is i h tag read_at place new =
    let held : list_any (λ (s : Standing).
    list_any (same_place place) s.places) (map (standing_by i.sessions) i.pending)
    ≡ list_any (λ (q : Pending). is_some (of_tag q.tag (versions_of i.store place))) i.pending =
    any_mapped (λ (s : Standing). list_any (same_place place) s.places)
    (standing_by i.sessions) i.pending
    ∙ any_each (λ (q : Pending). list_any (same_place place) q.keys) (λ q. is_some (of_tag q.tag
    (versions_of i.store place))) i.pending (each_held i place i.pending h.rises h.pending) in
    let newest = looked newest_of refl (nat_lt read_at) place i.store h.rises in
    ap (λ (b : Bool). not b && not (list_any (λ (key : Place × ℕ). same_place place key.0
    && nat_lt read_at key.1) (kept newest_of i.store))) held
    ∙ ap (λ (b : Bool). not (list_any (λ (q : Pending).
    is_some (of_tag q.tag (versions_of i.store place))) i.pending) && not b) newest
    ∙ free_versions i h tag read_at (versions_of i.store place) new
    (stands_at i.pending i.sessions place i.store h.keys)

-- so no write conflicts
none_is : {A : Type 0} (o : Option A) → is_none o ≡ true → o ≡ None
none_is None h = refl
none_is (Some a) h = cc

pub no_conflict : (store : Versions) (at : ℕ) (tag : Tag) (writes : List Write)
    → AllByRecursion (λ write. is_none (against at tag (versions_of store (place_of write)))
    ≡ true) writes → conflict store at tag writes ≡ None
no_conflict store at tag [] all = refl
no_conflict store at tag (write ∷ writes) all =
    rw (none_is _ all.0) (no_conflict store at tag writes all.1)

-- A write is taken back.

twice_case : (tag : Tag) (v : Version) (versions : List Version) (b : Bool) → is_of tag v ≡ b
    → without tag (without tag versions) ≡ without tag versions
    → without tag (cond (not b) (v ∷ without tag versions) (without tag versions))
    ≡ cond (not b) (v ∷ without tag versions) (without tag versions)
twice_case tag v versions true is more = more
twice_case tag v versions false is more = rw is (ap (λ (xs : List Version). v ∷ xs) more)

without_twice : (tag : Tag) (versions : List Version)
    → without tag (without tag versions) ≡ without tag versions
without_twice tag [] = refl
without_twice tag (v ∷ versions) =
    twice_case tag v versions (is_of tag v) refl (without_twice tag versions)

without_wrote : (tag : Tag) (doc : Option Document) (versions : List Version)
    → without tag (wrote tag doc versions) ≡ without tag versions
without_wrote tag doc versions = rw (own_tag tag) (without_twice tag versions)

-- rows whose own versions are dropped
abbrev front_dropped : Tag → Place → List Version → Versions → Versions
front_dropped tag place versions store = filter has_versions ((place, without tag versions)
    ∷ map (λ key. (key.0, without tag key.1)) store)

back_case : (tag : Tag) (doc : Option Document) (place : Place) (row : Place
    × List Version) (store : Versions) (o : Ordering) → place_cmp place row.0 ≡ o
    → dropped tag (changed_at place_cmp place (wrote tag doc) [] store) ≡ dropped tag store
    → dropped tag (elim o [
      | Less ↦ (place, wrote tag doc []) ∷ row ∷ store
      | Equal ↦ (place, wrote tag doc row.1) ∷ store
      | Greater ↦ row ∷ changed_at place_cmp place (wrote tag doc) [] store
    ]) ≡ dropped tag (row ∷ store)
back_case tag doc place row store Less is more = rw (without_wrote tag doc []) refl
back_case tag doc place row store Equal is more =
    rw (without_wrote tag doc row.1, place_exact place row.0 is) refl
back_case tag doc place row store Greater is more = ap (λ (xs : Versions).
    if has_versions (row.0, without tag row.1) then (row.0, without tag row.1) ∷ xs else xs) more

write_back : (tag : Tag) (doc : Option Document) (place : Place) (store : Versions)
    → dropped tag (changed_at place_cmp place (wrote tag doc) [] store) ≡ dropped tag store
write_back tag doc place [] = rw (without_wrote tag doc []) refl
write_back tag doc place (row ∷ store) =
    back_case tag doc place row store (place_cmp place row.0) refl (write_back tag doc place store)

writes_back : (tag : Tag) (writes : List Write) (store : Versions) → Rises place_cmp store
    → dropped tag (with_writes tag store writes) ≡ dropped tag store
writes_back tag [] store r = refl
writes_back tag (write ∷ writes) store r =
    writes_back tag writes (with_write tag store write) (rises_write tag store write r)
    ∙ ap (dropped tag) (write_changes tag store write r)
    ∙ write_back tag (content_of write) (place_of write) store

all_stay : (tag : Tag) (versions : List Version)
    → AllByRecursion (λ v. is_of tag v ≡ false) versions → without tag versions ≡ versions
all_stay tag [] all = refl
all_stay tag (v ∷ versions) all =
    rw all.0 (ap (λ (xs : List Version). v ∷ xs) (all_stay tag versions all.1))

row_stays : (pending : List Pending) (sessions : Table) (place : Place) (versions : List Version)
    (store : Versions) → IsKey pending sessions versions → filter has_versions ((place, versions)
    ∷ store) ≡ (place, versions) ∷ filter has_versions store
row_stays pending sessions place [] store h = absurd h
row_stays pending sessions place (v ∷ rest) store h = refl

none_dropped : (tag : Tag) (pending : List Pending) (sessions : Table) (store : Versions)
    → pending_of pending tag ≡ None → AllByRecursion (λ row. IsKey pending sessions row.1) store
    → dropped tag store ≡ store
none_dropped tag pending sessions [] new keys = refl
none_dropped tag pending sessions (row ∷ store) new keys =
    let stay = all_stay tag row.1 (none_found (is_of tag) row.1
    (none_own tag pending sessions row.1 new keys.0)) in
    ap (λ (versions : List Version). filter has_versions
    ((row.0, versions) ∷ map (λ key. (key.0, without tag key.1)) store)) stay
    ∙ row_stays pending sessions row.0 row.1 (map (λ key. (key.0, without tag key.1)) store) keys.0
    ∙ ap (λ (xs : Versions). row ∷ xs) (none_dropped tag pending sessions store new keys.1)

-- the writes of a transaction that isn't prepared, laid and dropped, leave the store
pub taken_back : (tag : Tag) (pending : List Pending) (sessions : Table) (writes : List Write)
    (store : Versions) → Rises place_cmp store → pending_of pending tag ≡ None
    → AllByRecursion (λ row. IsKey pending sessions row.1) store
    → dropped tag (with_writes tag store writes) ≡ store
taken_back tag pending sessions writes store r new keys = writes_back tag writes store r
    ∙ none_dropped tag pending sessions store new keys
