-- A store of versions in which a transaction writes, is prepared and decided: what stands under its
-- keys and the others.
use Rattle.std.proofs.Common.{◌≡◌, ℕ, Bool, true, false, not, cond, List, [], ◌∷◌, map, filter}
use Rattle.std.proofs.Common.{find, Option, Some, None, is_some, option_map, IsSomeAnd, refl, ap}
use Rattle.std.proofs.Common.{sym, subst, ◌∙◌}
use Rattle.std.specs.List.{filter_map, cons_option, AllByRecursion}
use Rattle.std.specs.Ordering.{ordering_reverse}
use Rattle.std.specs.declared.cmp.Ordering.TheVariants.{Less, Greater}
use Rattle.bson_core.specs.Fields.{Document}
use Rattle.txn_types.specs.Order.{same_tag}
use Rattle.txn_types.specs.declared.names.Tag.{Tag}
use Rattle.txn_types.specs.declared.write.Write.{Write}
use Rattle.txn_semantics.specs.Keyed.{put, laid, AllAbove, Rises}
use Rattle.txn_semantics.specs.Writes.{Place, place_of, place_cmp, placed}
use Rattle.txn_semantics.proofs.Laying.{cmp_self, rises_put, laid_behind}
use Rattle.txn_semantics.proofs.Places.{place_total, place_exact}
use Rattle.session_table.specs.Sessions.{Table}
use Rattle.version_store.specs.Versions.{Versions, FallBelow, first, is_some_and, is_of, writer_of}
use Rattle.version_store.specs.Versions.{commit_of, versions_of, without, with_write, with_writes}
use Rattle.version_store.specs.Versions.{restamped, stamped, dropped, has_versions, newest_of}
use Rattle.version_store.specs.Versions.{content_of, keys_of, written_by}
use Rattle.version_store.specs.declared.version.Pending.{Pending}
use Rattle.version_store.specs.declared.version.Stamp.{Stamp}
use Rattle.version_store.specs.declared.version.Stamp.TheVariants.{Unfinished, Prepared, At}
use Rattle.version_store.specs.declared.version.Version.{Version}
use Rattle.journal_rec.specs.Follows.{committed}
use Rattle.shard_image.specs.Sound.{pending_of, IsHeld, IsFront, IsKey}
use Rattle.shard_image.proofs.Found.{find_kept, keys_mapped, kept_mapped}
use Rattle.shard_image.proofs.Lists.{kept, kept_put, equal_case, above_kept}
use Rattle.shard_image.proofs.Changing.{changed_at, put_changes, each_changed, kept_changed}
use Rattle.shard_image.proofs.Fronts.{wrote, own_tag, tag_is, IsMid, IsOpenKey, wrote_mid}
use Rattle.shard_image.proofs.Fronts.{wrote_new, falls_at, none_stamped}

-- a write changes what stands under its key
pub write_changes : (tag : Tag) (store : Versions) (write : Write) → Rises place_cmp store
    → with_write tag store write
    ≡ changed_at place_cmp (place_of write) (wrote tag (content_of write)) [] store
write_changes tag store write r = put_changes place_cmp place_total place_exact [] (place_of write)
    (wrote tag (content_of write)) store r

pub rises_write : (tag : Tag) (store : Versions) (write : Write) → Rises place_cmp store
    → Rises place_cmp (with_write tag store write)
rises_write tag store write r =
    rises_put place_cmp place_total place_exact (place_of write) _ store r

pub rises_writes : (tag : Tag) (writes : List Write) (store : Versions) → Rises place_cmp store
    → Rises place_cmp (with_writes tag store writes)
rises_writes tag [] store r = r
rises_writes tag (write ∷ writes) store r =
    rises_writes tag writes (with_write tag store write) (rises_write tag store write r)

-- Rows keep rising.

above_mapped : (h : List Version → List Version) (key : Place) (store : Versions)
    → AllAbove place_cmp key store → AllAbove place_cmp key (map (λ row. (row.0, h row.1)) store)
above_mapped h key [] a = tt
above_mapped h key (row ∷ store) a = (a.0, above_mapped h key store a.1)

pub rises_mapped : (h : List Version → List Version) (store : Versions) → Rises place_cmp store
    → Rises place_cmp (map (λ row. (row.0, h row.1)) store)
rises_mapped h [] r = tt
rises_mapped h (row ∷ store) r = (above_mapped h row.0 store r.0, rises_mapped h store r.1)

above_filtered_case : (p : Place × List Version
    → Bool) (key : Place) (row : Place × List Version) (store : Versions) (b : Bool)
    → AllAbove place_cmp key (row ∷ store) → AllAbove place_cmp key (filter p store)
    → AllAbove place_cmp key (cond b (row ∷ filter p store) (filter p store))
above_filtered_case p key row store true a more = (a.0, more)
above_filtered_case p key row store false a more = more

above_filtered : (p : Place × List Version → Bool) (key : Place) (store : Versions)
    → AllAbove place_cmp key store → AllAbove place_cmp key (filter p store)
above_filtered p key [] a = tt
above_filtered p key (row ∷ store) a =
    above_filtered_case p key row store (p row) a (above_filtered p key store a.1)

rises_filtered_case : (p : Place × List Version → Bool) (row : Place × List Version)
    (store : Versions) (b : Bool) → Rises place_cmp (row ∷ store) → Rises place_cmp (filter p store)
    → Rises place_cmp (cond b (row ∷ filter p store) (filter p store))
rises_filtered_case p row store true r more = (above_filtered p row.0 store r.0, more)
rises_filtered_case p row store false r more = more

pub rises_filtered : (p : Place × List Version → Bool) (store : Versions) → Rises place_cmp store
    → Rises place_cmp (filter p store)
rises_filtered p [] r = tt
rises_filtered p (row ∷ store) r =
    rises_filtered_case p row store (p row) r (rises_filtered p store r.1)

-- A transaction writes where the places are free.

abbrev pub IsWritable : Tag → ℕ → List Pending → Table → (Place → Bool)
    → (Place × List Version) → Type 0
IsWritable tag read_at pending sessions free row = IsMid tag read_at pending sessions row.1
    × (free row.0 ≡ true → IsOpenKey read_at row.1)

module _ (tag : Tag) (read_at : ℕ) (pending : List Pending) (sessions : Table)
    (free : Place → Bool) where
  write_keeps : (store : Versions) (write : Write) → Rises place_cmp store → free (place_of write)
      ≡ true → AllByRecursion (IsWritable tag read_at pending sessions free) store
      → AllByRecursion (IsWritable tag read_at pending sessions free) (with_write tag store write)
  write_keeps store write r is all =
      rw (write_changes tag store write r)
      (each_changed place_cmp place_exact [] (IsWritable tag read_at pending sessions free)
      (place_of write) (wrote tag (content_of write)) store
      (wrote_new tag read_at pending sessions (content_of write), λ _. tt)
      (λ row same here. (
        wrote_mid tag read_at pending sessions (content_of write) row.1 here.0 (here.1
            (subst (λ (p : Place). free p ≡ true) (place_exact (place_of write) row.0 same) is)),
        λ _. tt,
      ))
      all)

  pub writes_keep : (writes : List Write) (store : Versions) → Rises place_cmp store
      → AllByRecursion (λ write. free (place_of write) ≡ true) writes
      → AllByRecursion (IsWritable tag read_at pending sessions free) store
      → AllByRecursion (IsWritable tag read_at pending sessions free) (with_writes tag store writes)
  writes_keep [] store r is all = all
  writes_keep (write ∷ writes) store r is all = writes_keep writes (with_write tag store write)
      (rises_write tag store write r) is.1 (write_keeps store write r is.0 all)

-- what holds of each key after a change of all
pub each_mapped : (P Q : List Version → Type 0) (h : List Version → List Version) (store : Versions)
    → ((versions : List Version) → P versions → Q (h versions))
    → AllByRecursion (λ (row : Place × List Version). P row.1) store
    → AllByRecursion (λ (row : Place × List Version). Q row.1) (map (λ row. (row.0, h row.1)) store)
each_mapped P Q h [] f all = tt
each_mapped P Q h (row ∷ store) f all = (f row.1 all.0, each_mapped P Q h store f all.1)

-- and of those that are left
left_case : (P Q : List Version → Type 0) (versions : List Version) (row : Place) (store : Versions)
    → (is_some (first versions) ≡ true → Q versions)
    → AllByRecursion (λ (row : Place × List Version). Q row.1) (filter has_versions store)
    → AllByRecursion (λ (row : Place × List Version). Q row.1)
    (filter has_versions ((row, versions) ∷ store))
left_case P Q [] row store f more = more
left_case P Q (v ∷ versions) row store f more = (f refl, more)

pub each_left : (P Q : List Version → Type 0) (h : List Version → List Version) (store : Versions)
    → ((versions : List Version) → P versions → is_some (first (h versions)) ≡ true
    → Q (h versions)) → AllByRecursion (λ (row : Place × List Version). P row.1) store
    → AllByRecursion (λ (row : Place × List Version). Q row.1)
    (filter has_versions (map (λ row. (row.0, h row.1)) store))
each_left P Q h [] f all = tt
each_left P Q h (row ∷ store) f all = left_case P Q (h row.1) row.0 (map (λ row. (row.0, h row.1))
    store) (f row.1 all.0) (each_left P Q h store f all.1)

-- The keys of a transaction.

-- those of which this keeps something
abbrev pub keys_kept : {B : Type 0} → (List Version → Option B) → Versions → List Place
keys_kept g store = map (λ row. row.0) (kept g store)

abbrev pub of_tag : Tag → List Version → Option Version
of_tag tag versions = find (is_of tag) versions

keys_case : (key : Place) (o : Option Version) (xs : List (Place × Option Document))
    (ys : List (Place × Version)) → map (λ row. row.0) xs ≡ map (λ row. row.0) ys
    → map (λ row. row.0) (cons_option (option_map (λ (version : Version). (key, version.doc)) o) xs)
    ≡ map (λ row. row.0) (cons_option (option_map (λ (version : Version). (key, version)) o) ys)
keys_case key None xs ys more = more
keys_case key (Some version) xs ys more = ap (λ (ks : List Place). key ∷ ks) more

pub keys_are : (tag : Tag) (store : Versions) → keys_of tag store ≡ keys_kept (of_tag tag) store
keys_are tag [] = refl
keys_are tag (row ∷ store) = keys_case row.0 (of_tag tag row.1) (written_by tag store)
    (kept (of_tag tag) store) (keys_are tag store)

-- a version of one transaction is of no other
apart_case : (t tag : Tag) (writer : Option Tag) → same_tag tag t ≡ false
    → is_some_and (λ w. same_tag w tag) writer ≡ true
    → is_some_and (λ w. same_tag w t) writer ≡ false
apart_case t tag None apart is = refl
apart_case t tag (Some w) apart is = rw (tag_is w tag is) apart

pub of_one : (t tag : Tag) → same_tag tag t ≡ false → (v : Version) → is_of tag v ≡ true
    → is_of t v ≡ false
of_one t tag apart v is = apart_case t tag (writer_of v.stamp) apart is

other_wrote : (t tag : Tag) (doc : Option Document) → same_tag tag t ≡ false
    → (versions : List Version) → of_tag t (wrote tag doc versions) ≡ of_tag t versions
other_wrote t tag doc apart versions =
    rw apart (find_kept (is_of t) (is_of tag) (of_one t tag apart) versions)

write_leaves : (t tag : Tag) (write : Write) (store : Versions) → same_tag tag t ≡ false
    → Rises place_cmp store → kept (of_tag t) (with_write tag store write) ≡ kept (of_tag t) store
write_leaves t tag write store apart r =
    ap (kept (of_tag t)) (write_changes tag store write r)
    ∙ kept_changed place_cmp place_exact [] (of_tag t) (place_of write) (wrote tag
    (content_of write)) store (rw apart refl) (other_wrote t tag (content_of write) apart)

pub writes_leave : (t tag : Tag) (writes : List Write) (store : Versions) → same_tag tag t ≡ false
    → Rises place_cmp store → kept (of_tag t) (with_writes tag store writes) ≡ kept (of_tag t) store
writes_leave t tag [] store apart r = refl
writes_leave t tag (write ∷ writes) store apart r = writes_leave t tag writes (with_write tag store
    write) apart (rises_write tag store write r) ∙ write_leaves t tag write store apart r

-- a stamp is the transaction's, or a commit's
abbrev pub IsStampOf : Tag → Stamp → Type 0
IsStampOf tag (Unfinished t) = ⊥
IsStampOf tag (Prepared t at) = t ≡ tag
IsStampOf tag (At at) = Unit {0}

stamp_apart : (t tag : Tag) (st : Stamp) (doc : Option Document) → IsStampOf tag st
    → same_tag tag t ≡ false → is_of t (record { stamp = st; doc = doc }) ≡ false
stamp_apart t tag (Unfinished w) doc h apart = absurd h
stamp_apart t tag (Prepared w at) doc h apart = rw h apart
stamp_apart t tag (At at) doc h apart = refl

stamp_case : (t tag : Tag) (st : Stamp) (v : Version) (test : Bool)
    → is_of tag v ≡ test → IsStampOf tag st → same_tag tag t ≡ false
    → is_of t (cond test (record { stamp = st; doc = v.doc }) v) ≡ is_of t v
stamp_case t tag st v true is h apart = stamp_apart t tag st v.doc h apart
    ∙ sym (of_one t tag apart v is)
stamp_case t tag st v false is h apart = refl

some_mapped_case : (o o' : Option Version) (x x' : Version) (b : Bool) → is_some o' ≡ is_some o
    → is_some (cond b (Some x') o') ≡ is_some (cond b (Some x) o)
some_mapped_case o o' x x' true more = refl
some_mapped_case o o' x x' false more = more

pub some_mapped : (p : Version → Bool) (h : Version → Version) → ((v : Version) → p (h v) ≡ p v)
    → (versions : List Version) → is_some (find p (map h versions)) ≡ is_some (find p versions)
some_mapped p h same [] = refl
some_mapped p h same (v ∷ versions) = rw (same v) (some_mapped_case (find p versions)
    (find p (map h versions)) v (h v) (p v) (some_mapped p h same versions))

pub stamp_leaves : (t tag : Tag) (st : Stamp) (store : Versions) → IsStampOf tag st → same_tag tag t
    ≡ false → keys_kept (of_tag t) (stamped tag st store) ≡ keys_kept (of_tag t) store
stamp_leaves t tag st store h apart =
    keys_mapped (of_tag t) (map (restamped tag st)) store (some_mapped (is_of t) (restamped tag st)
    (λ v. stamp_case t tag st v (is_of tag v) refl h apart))

-- keys without versions have nothing
left_row : {B : Type 0} (g : List Version → Option B) (versions : List Version) (key : Place)
    (store : Versions) → g [] ≡ None → kept g (filter has_versions store) ≡ kept g store
    → kept g (filter has_versions ((key, versions) ∷ store)) ≡ kept g ((key, versions) ∷ store)
left_row g [] key store e more = rw e more
left_row {B} g (v ∷ versions) key store e more = ap (λ (xs : List (Place × B)).
    cons_option (option_map (λ b. (key, b)) (g (v ∷ versions))) xs) more

pub kept_left : {B : Type 0} (g : List Version → Option B) (store : Versions) → g [] ≡ None
    → kept g (filter has_versions store) ≡ kept g store
kept_left g [] e = refl
kept_left g (row ∷ store) e = left_row g row.1 row.0 store e (kept_left g store e)

pub drop_leaves : (t tag : Tag) (store : Versions) → same_tag tag t ≡ false
    → kept (of_tag t) (dropped tag store) ≡ kept (of_tag t) store
drop_leaves t tag store apart =
    kept_left (of_tag t) (map (λ row. (row.0, without tag row.1)) store) refl
    ∙ kept_mapped (of_tag t) (without tag) store
    (find_kept (is_of t) (is_of tag) (of_one t tag apart))

-- The keys of the transaction that writes are those of its writes.

abbrev pub new_version : Tag → Write → Version
new_version tag write = record { stamp = Unfinished tag; doc = content_of write }

own_wrote : (tag : Tag) (doc : Option Document) (versions : List Version)
    → of_tag tag (wrote tag doc versions) ≡ Some (record { stamp = Unfinished tag; doc = doc })
own_wrote tag doc versions = rw (own_tag tag) refl

pub own_writes : (tag : Tag) (writes : List Write) (store : Versions) → Rises place_cmp store
    → kept (of_tag tag) (with_writes tag store writes) ≡ laid place_cmp (kept (of_tag tag) store)
    (map (λ write. (place_of write, new_version tag write)) writes)
own_writes tag [] store r = refl
own_writes tag (write ∷ writes) store r =
    own_writes tag writes (with_write tag store write) (rises_write tag store write r)
    ∙ ap (λ (xs : List (Place × Version)). laid place_cmp xs
    (map (λ write. (place_of write, new_version tag write)) writes))
    (kept_put place_cmp place_total place_exact (of_tag tag) (place_of write) _ (new_version tag
    write) store (own_wrote tag (content_of write) (versions_of store (place_of write))) r)

-- writes that rise by document, with something under each
above_valued : {A : Type 0} (f : Write → A) (key : Place) (writes : List Write)
    → AllAbove place_cmp key (map placed writes)
    → AllAbove place_cmp key (map (λ write. (place_of write, f write)) writes)
above_valued f key [] h = tt
above_valued f key (write ∷ writes) h = (h.0, above_valued f key writes h.1)

-- laid over nothing they are as they are
pub laid_rising : {A : Type 0} (f : Write → A) (writes : List Write)
    → Rises place_cmp (map placed writes)
    → laid place_cmp [] (map (λ write. (place_of write, f write)) writes)
    ≡ map (λ write. (place_of write, f write)) writes
laid_rising f [] r = refl
laid_rising {A} f (write ∷ writes) r =
    laid_behind place_cmp place_total place_exact (place_of write, f write) [] (map
    (λ write. (place_of write, f write)) writes) (above_valued f (place_of write) writes r.0)
    ∙ ap (λ (xs : List (Place × A)). (place_of write, f write) ∷ xs) (laid_rising f writes r.1)

keys_of_writes : {A : Type 0} (f : Write → A) (writes : List Write) → map (λ (row : Place × A).
    row.0) (map (λ write. (place_of write, f write)) writes) ≡ map place_of writes
keys_of_writes f [] = refl
keys_of_writes f (write ∷ writes) =
    ap (λ (ks : List Place). place_of write ∷ ks) (keys_of_writes f writes)

pub own_keys : (tag : Tag) (writes : List Write) (store : Versions) → Rises place_cmp store
    → Rises place_cmp (map placed writes) → kept (of_tag tag) store ≡ []
    → keys_of tag (with_writes tag store writes) ≡ map place_of writes
own_keys tag writes store r rising none =
    keys_are tag (with_writes tag store writes)
    ∙ ap (λ (xs : List (Place × Version)). map (λ row. row.0) xs)
    (own_writes tag writes store r ∙ ap (λ (xs : List (Place × Version)).
    laid place_cmp xs (map (λ write. (place_of write, new_version tag write)) writes)) none
    ∙ laid_rising (new_version tag) writes rising)
    ∙ keys_of_writes (new_version tag) writes

-- a stamp of its own leaves them
own_stamp_case : (tag : Tag) (at : ℕ) (v : Version) (test : Bool) → is_of tag v ≡ test
    → is_of tag (cond test (record { stamp = Prepared tag at; doc = v.doc }) v) ≡ test
own_stamp_case tag at v true is = own_tag tag
own_stamp_case tag at v false is = is

pub own_stamped : (tag : Tag) (at : ℕ) (store : Versions)
    → keys_kept (of_tag tag) (stamped tag (Prepared tag at) store) ≡ keys_kept (of_tag tag) store
own_stamped tag at store =
    keys_mapped (of_tag tag) (map (restamped tag (Prepared tag at))) store (some_mapped (is_of tag)
    (restamped tag (Prepared tag at)) (λ v. own_stamp_case tag at v (is_of tag v) refl))

-- The newest commits.

newest_front : (o : Option ℕ) (xs ys : List ℕ) → first xs ≡ first ys
    → first (cons_option o xs) ≡ first (cons_option o ys)
newest_front None xs ys more = more
newest_front (Some n) xs ys more = refl

-- a version of a transaction is no commit
of_tag_is : (tag : Tag) (v : Stamp) → is_some_and (λ w. same_tag w tag) (writer_of v) ≡ true
    → commit_of v ≡ None
of_tag_is tag (Unfinished w) is = refl
of_tag_is tag (Prepared w at) is = refl
of_tag_is tag (At at) is = cc

newest_without_case : (tag : Tag) (v : Version) (versions : List Version) (b : Bool)
    → is_of tag v ≡ b → newest_of (without tag versions) ≡ newest_of versions
    → newest_of (cond (not b) (v ∷ without tag versions) (without tag versions))
    ≡ newest_of (v ∷ versions)
newest_without_case tag v versions true is more = rw (of_tag_is tag v.stamp is) more
newest_without_case tag v versions false is more = newest_front (commit_of v.stamp)
    (filter_map (λ (version : Version). commit_of version.stamp) (without tag versions))
    (filter_map (λ (version : Version). commit_of version.stamp) versions) more

pub newest_without : (tag : Tag) (versions : List Version)
    → newest_of (without tag versions) ≡ newest_of versions
newest_without tag [] = refl
newest_without tag (v ∷ versions) =
    newest_without_case tag v versions (is_of tag v) refl (newest_without tag versions)

write_newest : (tag : Tag) (write : Write) (store : Versions) → Rises place_cmp store
    → kept newest_of (with_write tag store write) ≡ kept newest_of store
write_newest tag write store r =
    ap (kept newest_of) (write_changes tag store write r)
    ∙ kept_changed place_cmp place_exact [] newest_of (place_of write)
    (wrote tag (content_of write)) store refl (newest_without tag)

pub writes_newest : (tag : Tag) (writes : List Write) (store : Versions) → Rises place_cmp store
    → kept newest_of (with_writes tag store writes) ≡ kept newest_of store
writes_newest tag [] store r = refl
writes_newest tag (write ∷ writes) store r = writes_newest tag writes (with_write tag store write)
    (rises_write tag store write r) ∙ write_newest tag write store r

prepared_case : (tag : Tag) (at : ℕ) (v : Version) (test : Bool) → is_of tag v ≡ test → commit_of
    (cond test (record { stamp = Prepared tag at; doc = v.doc }) v).stamp ≡ commit_of v.stamp
prepared_case tag at v true is = sym (of_tag_is tag v.stamp is)
prepared_case tag at v false is = refl

newest_prepared : (tag : Tag) (at : ℕ) (versions : List Version)
    → newest_of (map (restamped tag (Prepared tag at)) versions) ≡ newest_of versions
newest_prepared tag at [] = refl
newest_prepared tag at (v ∷ versions) =
    rw (prepared_case tag at v (is_of tag v) refl)
    (newest_front (commit_of v.stamp) (filter_map (λ (version : Version). commit_of version.stamp)
    (map (restamped tag (Prepared tag at)) versions)) (filter_map (λ (version : Version).
    commit_of version.stamp) versions) (newest_prepared tag at versions))

pub prepared_newest : (tag : Tag) (at : ℕ) (store : Versions)
    → kept newest_of (stamped tag (Prepared tag at) store) ≡ kept newest_of store
prepared_newest tag at store =
    kept_mapped newest_of (map (restamped tag (Prepared tag at))) store (newest_prepared tag at)

pub dropped_newest : (tag : Tag) (store : Versions)
    → kept newest_of (dropped tag store) ≡ kept newest_of store
dropped_newest tag store =
    kept_left newest_of (map (λ row. (row.0, without tag row.1)) store) refl
    ∙ kept_mapped newest_of (without tag) store (newest_without tag)

-- A transaction's keys are committed.

-- the first version is the transaction's, or none is
abbrev pub IsFirst : Tag → List Version → Type 0
IsFirst tag [] = Unit {0}
IsFirst tag (v ∷ versions) = find (is_of tag) versions ≡ None

committed_behind : (at : ℕ) (row : Place × ℕ) (keys : List Place) (rows : List (Place × ℕ))
    → AllByRecursion (λ key. place_cmp row.0 key ≡ Less) keys
    → committed at keys (row ∷ rows) ≡ row ∷ committed at keys rows
committed_behind at row [] rows h = refl
committed_behind at row (key ∷ keys) rows h =
    let above : place_cmp key row.0 ≡ Greater = place_total.antisymm key row.0
    ∙ ap ordering_reverse h.0 in
    rw (put, above) (committed_behind at row keys (put place_cmp key at rows) h.1)

-- the keys that are kept stand where their rows do
kept_above_case : {B : Type 0} (low key : Place) (o : Option B) (rows : List (Place × B))
    → place_cmp low key ≡ Less
    → AllByRecursion (λ key. place_cmp low key ≡ Less) (map (λ row. row.0) rows)
    → AllByRecursion (λ key. place_cmp low key ≡ Less)
    (map (λ (row : Place × B). row.0) (cons_option (option_map (λ b. (key, b)) o) rows))
kept_above_case low key None rows is more = more
kept_above_case low key (Some b) rows is more = (is, more)

kept_above : {B : Type 0} (g : List Version → Option B) (low : Place) (store : Versions)
    → AllAbove place_cmp low store
    → AllByRecursion (λ key. place_cmp low key ≡ Less) (keys_kept g store)
kept_above g low [] h = tt
kept_above g low (row ∷ store) h =
    kept_above_case low row.0 (g row.1) (kept g store) h.0 (kept_above g low store h.1)

-- the newest commit of a key after the transaction's
pub record IsStamped (tag : Tag) (at : ℕ) (versions : List Version) : Type 0 where
  pub own : (v : Version) → of_tag tag versions ≡ Some v
      → newest_of (map (restamped tag (At at)) versions) ≡ Some at
  pub other : of_tag tag versions ≡ None
      → newest_of (map (restamped tag (At at)) versions) ≡ newest_of versions

rest_found : (tag : Tag) (at : ℕ) (versions : List Version) → FallBelow at versions
    → of_tag tag versions ≡ None
rest_found tag at [] h = refl
rest_found tag at (v ∷ versions) h = let f = falls_at at v.stamp versions h in
    rw f.is (rest_found tag f.commit versions f.rest)

stamped_case : (tag : Tag) (at below : ℕ) (v : Version) (rest : List Version) (b : Bool)
    → is_of tag v ≡ b → FallBelow below rest → IsStamped tag at (v ∷ rest)
stamped_case tag at below v rest true is h =
    record { own = λ w found. rw is refl; other = λ none. let e = rw is at none in cc }
stamped_case tag at below v rest false is h =
    record {
      own = λ w found. let e : of_tag tag rest ≡ Some w = rw is at found in
          let none = rest_found tag below rest h in cc;
      other = λ none. rw (is, none_stamped tag (At at) below rest h) refl;
    }

committed_row : (at : ℕ) (row : Place × List Version) (store : Versions) (n : Option ℕ) (keys :
    List Place) (xs : List (Place × ℕ)) → AllByRecursion (λ key. place_cmp row.0 key ≡ Less) keys
    → xs ≡ committed at keys (kept newest_of store)
    → cons_option (option_map (λ b. (row.0, b)) n) xs
    ≡ committed at keys (cons_option (option_map (λ b. (row.0, b)) n) (kept newest_of store))
committed_row at row store None keys xs above more = more
committed_row at row store (Some n) keys xs above more = ap (λ (xs : List (Place × ℕ)). (row.0, n)
    ∷ xs) more ∙ sym (committed_behind at (row.0, n) keys (kept newest_of store) above)

decided_row : (tag : Tag) (at : ℕ) (row : Place × List Version) (store : Versions) (o :
    Option Version) → of_tag tag row.1 ≡ o → Rises place_cmp (row ∷ store) → IsStamped tag at row.1
    → kept newest_of (stamped tag (At at) store)
    ≡ committed at (keys_kept (of_tag tag) store) (kept newest_of store)
    → kept newest_of (stamped tag (At at) (row ∷ store))
    ≡ committed at (map (λ (row : Place × Version). row.0) (cons_option
    (option_map (λ b. (row.0, b)) o) (kept (of_tag tag) store))) (kept newest_of (row ∷ store))
decided_row tag at row store None is r h more =
    ap (λ (n : Option ℕ). cons_option (option_map (λ b. (row.0, b)) n)
    (kept newest_of (stamped tag (At at) store))) (h.other is)
    ∙ committed_row at row store (newest_of row.1) (keys_kept (of_tag tag) store)
    (kept newest_of (stamped tag (At at) store)) (kept_above (of_tag tag) row.0 store r.0) more
decided_row tag at row store (Some v) is r h more =
    let above = above_kept place_cmp place_total place_exact newest_of row.0 store r.0 in
    ap (λ (n : Option ℕ). cons_option (option_map (λ b. (row.0, b)) n)
    (kept newest_of (stamped tag (At at) store))) (h.own v is)
    ∙ ap (λ (xs : List (Place × ℕ)). (row.0, at) ∷ xs) more
    ∙ sym (committed_behind at (row.0, at) (keys_kept (of_tag tag) store) (kept newest_of store)
    (kept_above (of_tag tag) row.0 store r.0))
    ∙ ap (committed at (keys_kept (of_tag tag) store))
    (equal_case place_cmp place_total place_exact newest_of row.0 at row (newest_of row.1)
    (kept newest_of store) (cmp_self place_cmp place_total place_exact row.0) above)

pub decided_newest : (tag : Tag) (at : ℕ) (store : Versions) → Rises place_cmp store
    → AllByRecursion (λ row. IsStamped tag at row.1) store
    → kept newest_of (stamped tag (At at) store)
    ≡ committed at (keys_kept (of_tag tag) store) (kept newest_of store)
decided_newest tag at [] r all = refl
decided_newest tag at (row ∷ store) r all = decided_row tag at row store (of_tag tag row.1) refl r
    all.0 (decided_newest tag at store r.1 all.1)

-- of each key of a state
held_falls : (sessions : Table) (at : ℕ) (rest : List Version) (found : Option Pending)
    → IsSomeAnd found (IsHeld sessions at rest) → FallBelow at rest
held_falls sessions at rest None h = absurd h
held_falls sessions at rest (Some q) h = h.below

stamped_front : (tag : Tag) (at : ℕ) (pending : List Pending) (sessions : Table) (stamp : Stamp)
    (doc : Option Document) (rest : List Version) → IsFront pending sessions rest stamp
    → IsStamped tag at (record { stamp = stamp; doc = doc } ∷ rest)
stamped_front tag at pending sessions (Unfinished t) doc rest h = absurd h
stamped_front tag at pending sessions (Prepared t since) doc rest h =
    stamped_case tag at since (record { stamp = Prepared t since; doc = doc }) rest (same_tag t tag)
    refl (held_falls sessions since rest (pending_of pending t) h)
stamped_front tag at pending sessions (At c) doc rest h =
    stamped_case tag at c (record { stamp = At c; doc = doc }) rest false refl h

pub key_stamped : (tag : Tag) (at : ℕ) (pending : List Pending) (sessions : Table)
    (versions : List Version) → IsKey pending sessions versions → IsStamped tag at versions
key_stamped tag at pending sessions [] h = absurd h
key_stamped tag at pending sessions (v ∷ rest) h =
    stamped_front tag at pending sessions v.stamp v.doc rest h

-- no version is of a transaction that isn't prepared
none_own_case : (tag : Tag) (pending : List Pending) (sessions : Table) (rest : List Version)
    (t : Tag) (since : ℕ) (doc : Option Document) (b : Bool) → same_tag t tag ≡ b
    → pending_of pending tag ≡ None
    → IsSomeAnd (pending_of pending t) (IsHeld sessions since rest)
    → cond b (Some (record { stamp = Prepared t since; doc = doc })) (of_tag tag rest) ≡ None
none_own_case tag pending sessions rest t since doc true is new h =
    let e : pending_of pending t ≡ None = rw (tag_is t tag is) new in absurd (rw e at h)
none_own_case tag pending sessions rest t since doc false is new h =
    rest_found tag since rest (held_falls sessions since rest (pending_of pending t) h)

none_own_front : (tag : Tag) (pending : List Pending) (sessions : Table) (rest : List Version)
    (stamp : Stamp) (doc : Option Document) → pending_of pending tag ≡ None
    → IsFront pending sessions rest stamp
    → of_tag tag (record { stamp = stamp; doc = doc } ∷ rest) ≡ None
none_own_front tag pending sessions rest (Unfinished t) doc new h = absurd h
none_own_front tag pending sessions rest (Prepared t since) doc new h =
    none_own_case tag pending sessions rest t since doc (same_tag t tag) refl new h
none_own_front tag pending sessions rest (At c) doc new h = rest_found tag c rest h

pub none_own : (tag : Tag) (pending : List Pending) (sessions : Table) (versions : List Version)
    → pending_of pending tag ≡ None → IsKey pending sessions versions → of_tag tag versions ≡ None
none_own tag pending sessions [] new h = absurd h
none_own tag pending sessions (v ∷ rest) new h =
    none_own_front tag pending sessions rest v.stamp v.doc new h

pub nothing_own : (tag : Tag) (pending : List Pending) (sessions : Table) (store : Versions)
    → pending_of pending tag ≡ None → AllByRecursion (λ row. IsKey pending sessions row.1) store
    → kept (of_tag tag) store ≡ []
nothing_own tag pending sessions [] new h = refl
nothing_own tag pending sessions (row ∷ store) new h = rw (none_own tag pending sessions row.1 new
    h.0) (nothing_own tag pending sessions store new h.1)
