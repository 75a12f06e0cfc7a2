-- A committed version of a shard's store is that of a commit in its journal, which wrote there.
use Rattle.std.proofs.Common.{◌≡◌, ◌⊎◌, inl, inr, ◌-◌, ◌++◌, ℕ, ℤ, Bool, true, false, not, List, []}
use Rattle.std.proofs.Common.{◌∷◌, map, filter, All, Contains, Option, Some, None, option_map, refl}
use Rattle.std.proofs.Common.{ap}
use Rattle.std.proofs.Common.{subst, ◌∙◌, sym, find, unwrap_or, is_some, nat_lt, if◌then◌else◌}
use Rattle.std.proofs.lemmas.List.{append_assoc, append-nil}
use Rattle.std.proofs.lemmas.List.Elements.{All-head, All-tail, Contains-append_left, Contains-push}
use Rattle.std.specs.Ordering.{is_eq}
use Rattle.std.specs.declared.cmp.Ordering.{Ordering}
use Rattle.std.specs.declared.cmp.Ordering.TheVariants.{Less, Equal, Greater}
use Rattle.txn_types.specs.Letters.{Named}
use Rattle.txn_types.specs.declared.cause.Cause.{Cause}
use Rattle.txn_types.specs.declared.cause.Cause.TheVariants as cause
use Rattle.txn_types.specs.declared.names.Tag.{Tag}
use Rattle.txn_types.specs.declared.node.Lsid.{Lsid}
use Rattle.txn_types.specs.declared.write.Write.{Write}
use Rattle.txn_semantics.proofs.Places.{place_total, place_exact}
use Rattle.txn_semantics.specs.Keyed.{put}
use Rattle.txn_semantics.specs.Writes.{Place, place_of, place_cmp}
use Rattle.session_table.specs.declared.session.Session.{Session}
use Rattle.version_store.specs.Versions.{Versions, first, is_of, versions_of, without}
use Rattle.version_store.specs.Versions.{with_write, with_writes, restamped, stamped, has_versions}
use Rattle.version_store.specs.Versions.{dropped, outlives, finished, decided}
use Rattle.version_store.specs.declared.version.Stamp.{Stamp}
use Rattle.version_store.specs.declared.version.Stamp.TheVariants.{Unfinished, Prepared, At}
use Rattle.version_store.specs.declared.version.Version.{Version}
use Rattle.journal_rec.specs.declared.record.Rec.{Rec}
use Rattle.journal_rec.specs.declared.record.Rec.TheVariants as rec
use Rattle.shard_image.specs.Image.{Image, image_of, empty_image, with_record, with_records}
use Rattle.participant.specs.declared.said.Open.{Open}
use Rattle.participant.specs.Expiry.{lifetime, expire_all, expire}
use Rattle.participant.specs.Part.{Part, session, ends_live, end_live}
use Rattle.participant.proofs.Cases.{either}
use Rattle.participant.proofs.Tags.{tag_self}
use Rattle.part_laws.specs.Each.{Each, Among}
use Rattle.part_laws.proofs.Chains.{each_weaker, each_filter}
use Rattle.part_laws.proofs.Looking.{eq_exact}
use Rattle.one_shard_laws.specs.Alone.{RecAlone}

abbrev places_of : List Write → List Place
places_of writes = map place_of writes

-- the record commits at this time, and wrote at the place
abbrev pub Commits : Place → ℕ → Rec → Type 0
Commits place time (rec.Commit tag lsid number read_at at writes) = (at ≡ time)
    × Among place (places_of writes)
Commits place time other = ⊥

abbrev pub HasCommitAt : List Rec → Place → ℕ → Type 0
HasCommitAt recs place time = (r : Rec) × Contains recs r × Commits place time r

abbrev Stamped : List Rec → Place → Stamp → Type 0
Stamped recs place (At time) = HasCommitAt recs place time
Stamped recs place other = ⊥

-- of each version
abbrev EachVersion : (Place → Version → Type 0) → Versions → Type 0
EachVersion P store = Each (λ (key : Place × List Version). Each (P key.0) key.1) store

abbrev IsStamped : List Rec → Place → Version → Type 0
IsStamped recs place v = Stamped recs place v.stamp

-- a thing put in
each_put : (P : Place × List Version → Type 0) (place : Place) (a : List Version) → P (place, a)
    → (rows : Versions) → Each P rows → Each P (put place_cmp place a rows)
each_put P place a h [] each = (h, tt)
each_put P place a h (row ∷ rows) each =
    by_order (place_cmp place row.0) (each_put P place a h rows each.1)
  where
    by_order : (o : Ordering) → Each P (put place_cmp place a rows)
        → Each P (elim o [
          | Less ↦ (place, a) ∷ row ∷ rows
          | Equal ↦ (place, a) ∷ rows
          | Greater ↦ row ∷ put place_cmp place a rows
        ])
    by_order Less more = (h, each)
    by_order Equal more = (h, each.1)
    by_order Greater more = (each.0, more)

-- the versions of a place
there_case : (P : Place → Version → Type 0) (place : Place) (key : Place × List Version)
    (store : Versions) (b : Bool) → is_eq (place_cmp place key.0) ≡ b
    → EachVersion P (key ∷ store) → Each (P place) (versions_of store place)
    → Each (P place) (versions_of (key ∷ store) place)
there_case P place key store true is each more =
    let same : place ≡ key.0 = eq_exact place_cmp place_total place_exact place key.0 is in
    let here : Each (P place) key.1 =
    subst (λ (x : Place). Each (P x) key.1) (sym same) each.0 in
    subst (λ (b : Bool). Each (P place) (unwrap_or (option_map (λ (k : Place × List Version). k.1)
    (if b then Some key else find (λ (k : Place × List Version). is_eq (place_cmp place k.0))
    store)) [])) (sym is) here
there_case P place key store false is each more =
    subst (λ (b : Bool). Each (P place) (unwrap_or (option_map (λ (k : Place × List Version). k.1)
    (if b then Some key else find (λ (k : Place × List Version). is_eq (place_cmp place k.0))
    store)) [])) (sym is) more

pub versions_there : (P : Place → Version → Type 0) (place : Place) (store : Versions)
    → EachVersion P store → Each (P place) (versions_of store place)
versions_there P place [] each = tt
versions_there P place (key ∷ store) each =
    there_case P place key store (is_eq (place_cmp place key.0)) refl each
    (versions_there P place store each.1)

-- A commit's record.

module _ (recs : List Rec) (tag : Tag) (lsid : Lsid) (number : ℤ) (read_at at : ℕ)
    (writes : List Write) where
  abbrev r : Rec
  r = rec.Commit tag lsid number read_at at writes

  -- of a commit before, or unfinished and of this one
  abbrev Before : Place → Version → Type 0
  Before place v = IsStamped recs place v
      ⊎ ((v.stamp ≡ Unfinished tag) × Among place (places_of writes))

  write_stands : (store : Versions) (w : Write) → Among (place_of w) (places_of writes)
      → EachVersion Before store → EachVersion Before (with_write tag store w)
  write_stands store w among each =
      each_put (λ (key : Place × List Version). Each (Before key.0) key.1) (place_of w) _ (
        inr (refl, among),
        each_filter (Before (place_of w)) (λ v. not (is_of tag v)) (versions_of store (place_of w))
            (versions_there Before (place_of w) store each),
      ) store each

  writes_stand : (part : List Write) → ((w : Write) → Among w part
      → Among (place_of w) (places_of writes)) → (store : Versions) → EachVersion Before store
      → EachVersion Before (with_writes tag store part)
  writes_stand [] sub store each = each
  writes_stand (w ∷ part) sub store each =
      writes_stand part (λ x a. sub x (inr a)) (with_write tag store w)
      (write_stands store w (sub w (inl refl)) each)

  more_recs : (place : Place) (time : ℕ) → HasCommitAt recs place time
      → HasCommitAt (recs ++ r ∷ []) place time
  more_recs place time h = (h.0, Contains-append_left recs (r ∷ []) h.0 h.1, h.2)

  stamp_more : (place : Place) (stamp : Stamp) → Stamped recs place stamp
      → Stamped (recs ++ r ∷ []) place stamp
  stamp_more place (At time) h = more_recs place time h
  stamp_more place (Unfinished other) h = absurd h
  stamp_more place (Prepared other since) h = absurd h

  this_one : (place : Place) → Among place (places_of writes)
      → HasCommitAt (recs ++ r ∷ []) place at
  this_one place among = (r, Contains-push recs r, (refl, among))

  -- a committed version isn't of a transaction that isn't
  not_mine : (place : Place) (stamp : Stamp) → Stamped recs place stamp → (v : Version)
      → v.stamp ≡ stamp → is_of tag v ≡ false
  not_mine place (At time) h v is = rw is refl
  not_mine place (Unfinished other) h v is = absurd h
  not_mine place (Prepared other since) h v is = absurd h

  mine : (v : Version) → v.stamp ≡ Unfinished tag → is_of tag v ≡ true
  mine v is = rw is (tag_self tag)

  restamp_case : (place : Place) (v : Version) → Before place v → (b : Bool) → is_of tag v ≡ b
      → IsStamped (recs ++ r ∷ []) place
      (if b then record { stamp = At at; doc = v.doc } else v)
  restamp_case place v (inl old) true is =
      let wrong : true ≡ false = sym is ∙ not_mine place v.stamp old v refl in cc
  restamp_case place v (inl old) false is = stamp_more place v.stamp old
  restamp_case place v (inr new) true is = this_one place new.1
  restamp_case place v (inr new) false is =
      let wrong : true ≡ false = sym (mine v new.0) ∙ is in cc

  stamp_versions : (place : Place) (vs : List Version) → Each (Before place) vs
      → Each (IsStamped (recs ++ r ∷ []) place) (map (restamped tag (At at)) vs)
  stamp_versions place [] each = tt
  stamp_versions place (v ∷ vs) each = (
    restamp_case place v each.0 (is_of tag v) refl,
    stamp_versions place vs each.1,
  )

  stamp_store : (store : Versions) → EachVersion Before store
      → EachVersion (IsStamped (recs ++ r ∷ [])) (stamped tag (At at) store)
  stamp_store [] each = tt
  stamp_store (key ∷ store) each =
      (stamp_versions key.0 key.1 each.0, stamp_store store each.1)

  before_all : (store : Versions) → EachVersion (IsStamped recs) store → EachVersion Before store
  before_all store each =
      each_weaker (λ (key : Place × List Version). Each (IsStamped recs key.0) key.1)
      (λ (key : Place × List Version). Each (Before key.0) key.1)
      (λ key h. each_weaker (IsStamped recs key.0) (Before key.0) (λ v k. inl k) key.1 h) store each

  place_among : (part : List Write) (w : Write) → Among w part → Among (place_of w) (places_of part)
  place_among [] w a = absurd a
  place_among (x ∷ part) w (inl is) = inl (ap place_of is)
  place_among (x ∷ part) w (inr a) = inr (place_among part w a)

  commit_stands : (store : Versions) → EachVersion (IsStamped recs) store
      → EachVersion (IsStamped (recs ++ r ∷ []))
      (decided tag (Some at) (with_writes tag store writes))
  commit_stands store each =
      stamp_store (with_writes tag store writes)
      (writes_stand writes (place_among writes) store (before_all store each))

-- Records.

same_store : (recs : List Rec) (r : Rec) (store : Versions) → EachVersion (IsStamped recs) store
    → EachVersion (IsStamped (recs ++ r ∷ [])) store
same_store recs r store each =
    each_weaker (λ (key : Place × List Version). Each (IsStamped recs key.0) key.1)
    (λ (key : Place × List Version). Each (IsStamped (recs ++ r ∷ []) key.0) key.1)
    (λ key h. each_weaker (IsStamped recs key.0) (IsStamped (recs ++ r ∷ []) key.0)
    (λ v k. by_stamp key.0 v.stamp k) key.1 h) store each
  where
    by_stamp : (place : Place) (stamp : Stamp) → Stamped recs place stamp
        → Stamped (recs ++ r ∷ []) place stamp
    by_stamp place (At time) h = (h.0, Contains-append_left recs (r ∷ []) h.0 h.1, h.2)
    by_stamp place (Unfinished other) h = absurd h
    by_stamp place (Prepared other since) h = absurd h

record_stands : (P : Named → Type 0) (recs : List Rec) (i : Image) (r : Rec) → RecAlone P r
    → EachVersion (IsStamped recs) i.store
    → EachVersion (IsStamped (recs ++ r ∷ [])) (with_record i r).store
record_stands P recs i (rec.Boot boot) h each = same_store recs (rec.Boot boot) i.store each
record_stands P recs i (rec.Ceiling bound) h each =
    same_store recs (rec.Ceiling bound) i.store each
record_stands P recs i (rec.Commit tag lsid number read_at at writes) h each =
    commit_stands recs tag lsid number read_at at writes i.store each
record_stands P recs i (rec.Prepared tag lsid number boot read_at at coordinator writes) h each =
    absurd h
record_stands P recs i (rec.Decided d) h each = absurd h
record_stands P recs i (rec.CoordStart tag lsid number parts) h each = absurd h
record_stands P recs i (rec.CoordDecision tag d) h each = absurd h
record_stands P recs i (rec.CoordEnd tag) h each = absurd h
record_stands P recs i (rec.Floor floor) h each = absurd h

records_stand : (P : Named → Type 0) (front : List Rec) (i : Image)
    → EachVersion (IsStamped front) i.store → (recs : List Rec) → All (RecAlone P) recs
    → EachVersion (IsStamped (front ++ recs)) (with_records i recs).store
records_stand P front i each [] all =
    subst (λ (rs : List Rec). EachVersion (IsStamped rs) i.store) (sym (append-nil front)) each
records_stand P front i each (r ∷ recs) all =
    subst (λ (rs : List Rec). EachVersion (IsStamped rs)
    (with_records (with_record i r) recs).store)
    (append_assoc front (r ∷ []) recs)
    (records_stand P (front ++ r ∷ []) (with_record i r)
    (record_stands P front i r (All-head (RecAlone P) r recs all) each) recs
    (All-tail (RecAlone P) r recs all))

image_stands : (P : Named → Type 0) (recs : List Rec) → All (RecAlone P) recs
    → EachVersion (IsStamped recs) (image_of recs).store
unfolding image_of
image_stands P recs all = records_stand P [] empty_image tt recs all

-- A store that runs: what isn't finished is besides.

abbrev pub IsCommitOf : List Rec → Place → Version → Type 0
IsCommitOf recs place v = (time : ℕ) → v.stamp ≡ At time → HasCommitAt recs place time

of_stamp : (recs : List Rec) (place : Place) (stamp : Stamp) → Stamped recs place stamp
    → (time : ℕ) → stamp ≡ At time → HasCommitAt recs place time
of_stamp recs place (At at) h time is =
    let same : at ≡ time = cc in subst (HasCommitAt recs place) same h
of_stamp recs place (Unfinished other) h time is = absurd h
of_stamp recs place (Prepared other since) h time is = absurd h

outlives_at : (v : Version) (time : ℕ) → v.stamp ≡ At time → outlives v.stamp ≡ true
outlives_at v time is = ap outlives is

unfiltered : (recs : List Rec) (place : Place) (vs : List Version)
    → Each (IsStamped recs place) (filter (λ v. outlives v.stamp) vs)
    → Each (IsCommitOf recs place) vs
unfiltered recs place [] each = tt
unfiltered recs place (v ∷ vs) each =
    by_life (outlives v.stamp) refl (λ k. unfiltered recs place vs k) each
  where
    by_life : (b : Bool) → outlives v.stamp ≡ b
        → (Each (IsStamped recs place) (filter (λ v. outlives v.stamp) vs)
        → Each (IsCommitOf recs place) vs)
        → Each (IsStamped recs place) (if b then v ∷ filter (λ v. outlives v.stamp) vs
        else filter (λ v. outlives v.stamp) vs)
        → Each (IsCommitOf recs place) (v ∷ vs)
    by_life true is more each = (of_stamp recs place v.stamp each.0, more each.1)
    by_life false is more each = (
      λ time at. absurd (not_both (sym (outlives_at v time at) ∙ is)),
      more each,
    )
      where
        not_both : true ≡ false → ⊥
        not_both h = cc

finished_case : (recs : List Rec) (key : Place × List Version) (store : Versions)
    (kept : List Version) → filter (λ v. outlives v.stamp) key.1 ≡ kept
    → (EachVersion (IsStamped recs) (finished store) → EachVersion (IsCommitOf recs) store)
    → EachVersion (IsStamped recs) (if is_some (first kept) then (key.0, kept) ∷ finished store
    else finished store) → EachVersion (IsCommitOf recs) (key ∷ store)
finished_case recs key store [] is more each = (
  unfiltered recs key.0 key.1
      (subst (Each (IsStamped recs key.0)) (sym is) tt),
  more each,
)
finished_case recs key store (v ∷ vs) is more each = (
  unfiltered recs key.0 key.1
      (subst (Each (IsStamped recs key.0)) (sym is) each.0),
  more each.1,
)

unfinished : (recs : List Rec) (store : Versions) → EachVersion (IsStamped recs) (finished store)
    → EachVersion (IsCommitOf recs) store
unfinished recs [] each = tt
unfinished recs (key ∷ store) each =
    finished_case recs key store (filter (λ v. outlives v.stamp) key.1) refl
    (unfinished recs store) each

pub store_commits : (P : Named → Type 0) (recs : List Rec) (store : Versions)
    → All (RecAlone P) recs → (image_of recs).store ≡ finished store
    → EachVersion (IsCommitOf recs) store
store_commits P recs store all is =
    unfinished recs store
    (subst (EachVersion (IsStamped recs)) is (image_stands P recs all))

-- What expires takes versions away, and brings none.

drop_case : (Q : Place → Version → Type 0) (tag : Tag) (key : Place × List Version)
    (store : Versions) (b : Bool) → Each (Q key.0) (without tag key.1)
    → EachVersion Q (dropped tag store)
    → EachVersion Q (if b then (key.0, without tag key.1) ∷ dropped tag store
    else dropped tag store)
drop_case Q tag key store true here more = (here, more)
drop_case Q tag key store false here more = more

pub drop_each : (Q : Place → Version → Type 0) (tag : Tag) (store : Versions) → EachVersion Q store
    → EachVersion Q (dropped tag store)
drop_each Q tag [] each = tt
drop_each Q tag (key ∷ store) each =
    drop_case Q tag key store (has_versions (key.0, without tag key.1))
    (each_filter (Q key.0) (λ v. not (is_of tag v)) key.1 each.0)
    (drop_each Q tag store each.1)

ends_each : (Q : Place → Version → Type 0) (p : Part) (lsid : Lsid) (why : Cause)
    (o : Option Session) → EachVersion Q p.store → EachVersion Q (ends_live p lsid why o).store
ends_each Q p lsid why None each = each
ends_each Q p lsid why (Some s) each = drop_each Q s.tag p.store each

expire_all_each : (Q : Place → Version → Type 0) (wall : ℕ) (rest : List (Lsid × Open)) (p : Part)
    → EachVersion Q p.store → EachVersion Q (expire_all wall rest p).store
expire_all_each Q wall [] p each = each
expire_all_each Q wall (entry ∷ rest) p each =
    expire_all_each Q wall rest (if nat_lt lifetime (wall - entry.1.begun)
    then end_live p entry.0 (cause.Expired entry.1.begun wall) else p)
    (either (nat_lt lifetime (wall - entry.1.begun)) (λ (q : Part). EachVersion Q q.store) _ _
    (ends_each Q p entry.0 (cause.Expired entry.1.begun wall) (session p entry.0) each) each)

pub expire_each : (Q : Place → Version → Type 0) (p : Part) (wall : ℕ) → EachVersion Q p.store
    → EachVersion Q (expire p wall).store
unfolding expire
expire_each Q p wall each = expire_all_each Q wall p.live p each
