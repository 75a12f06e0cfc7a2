-- The versions of one key, as they are written, stamped, decided and dropped.
use Rattle.std.proofs.Common.{◌≡◌, ◌≤◌, ◌<◌, ℕ, Bool, true, false, not, cond, List, [], ◌∷◌, map}
use Rattle.std.proofs.Common.{Option, Some, None, if◌then◌else◌, IfSome, IsSomeAnd, refl, ap, ◌∙◌}
use Rattle.std.proofs.Common.{arith}
use Rattle.std.specs.Ordering.{is_eq}
use Rattle.bson_core.specs.Fields.{Document}
use Rattle.txn_types.specs.Order.{same_tag, tag_cmp}
use Rattle.txn_types.specs.declared.names.Tag.{Tag}
use Rattle.txn_types.proofs.Orders.{tag_total, tag_exact}
use Rattle.txn_semantics.proofs.Laying.{cmp_self}
use Rattle.session_table.specs.Sessions.{Table}
use Rattle.version_store.specs.Versions.{FallBelow, Fall, commit_of, without, restamped, newest_of}
use Rattle.version_store.specs.declared.version.Pending.{Pending}
use Rattle.version_store.specs.declared.version.Stamp.{Stamp}
use Rattle.version_store.specs.declared.version.Stamp.TheVariants.{Unfinished, Prepared, At}
use Rattle.version_store.specs.declared.version.Version.{Version}
use Rattle.shard_image.specs.Sound.{pending_of, prepare_time, IsHeld, IsFront, IsKey}
use Rattle.shard_image.proofs.Changing.{is_equal}

pub tag_is : (a b : Tag) → same_tag a b ≡ true → a ≡ b
tag_is a b h = tag_exact a b (is_equal (tag_cmp a b) h)

pub own_tag : (tag : Tag) → same_tag tag tag ≡ true
own_tag tag = ap is_eq (cmp_self tag_cmp tag_total tag_exact tag)

-- a transaction has one tag
pub tags_apart : (a b c : Tag) → same_tag b c ≡ false → same_tag a b ≡ true → same_tag a c ≡ false
tags_apart a b c h e = rw (tag_is a b e) h

pub tag_differs : (a b : Tag) (test : Bool) → same_tag a b ≡ test → same_tag b a ≡ false
    → test ≡ false
tag_differs a b true is h = let e : same_tag b a ≡ true = rw (tag_is a b is) (own_tag b) in cc
tag_differs a b false is h = refl

pub not_same : (a b : Tag) → same_tag b a ≡ false → same_tag a b ≡ false
not_same a b h = tag_differs a b (same_tag a b) refl h

-- Commits that fall.

pub record FallsAt (at : ℕ) (stamp : Stamp) (versions : List Version) : Type 0 where
  pub commit : ℕ
  pub is : stamp ≡ At commit
  pub below : commit < at
  pub rest : FallBelow commit versions

pub falls_at : (at : ℕ) (stamp : Stamp) (rest : List Version)
    → IsSomeAnd (commit_of stamp) (λ commit. (commit < at) × FallBelow commit rest)
    → FallsAt at stamp rest
falls_at at (Unfinished tag) rest h = absurd h
falls_at at (Prepared tag t) rest h = absurd h
falls_at at (At c) rest h = record { commit = c; is = refl; below = h.0; rest = h.1 }

pub all_kept : (tag : Tag) (at : ℕ) (versions : List Version) → FallBelow at versions
    → without tag versions ≡ versions
all_kept tag at [] h = refl
all_kept tag at (v ∷ versions) h =
    let f = falls_at at v.stamp versions h in
    rw f.is (ap (λ (xs : List Version). record { stamp = At f.commit; doc = v.doc } ∷ xs)
    (all_kept tag f.commit versions f.rest))

pub none_stamped : (tag : Tag) (st : Stamp) (at : ℕ) (versions : List Version)
    → FallBelow at versions → map (restamped tag st) versions ≡ versions
none_stamped tag st at [] h = refl
none_stamped tag st at (v ∷ versions) h =
    let f = falls_at at v.stamp versions h in
    rw f.is (ap (λ (xs : List Version). record { stamp = At f.commit; doc = v.doc } ∷ xs)
    (none_stamped tag st f.commit versions f.rest))

pub falls_higher : (a b : ℕ) (versions : List Version) → a ≤ b → FallBelow a versions
    → FallBelow b versions
falls_higher a b [] le h = tt
falls_higher a b (v ∷ versions) le h = let f = falls_at a v.stamp versions h in
    rw f.is (omega (arith, f.below), f.rest)

pub fall_of : (at : ℕ) (versions : List Version) → FallBelow at versions → Fall versions
fall_of at [] h = tt
fall_of at (v ∷ versions) h = let f = falls_at at v.stamp versions h in rw f.is f.rest

-- commits that fall begin below a time that is above the newest
pub record Falls (stamp : Stamp) (versions : List Version) : Type 0 where
  pub commit : ℕ
  pub is : stamp ≡ At commit
  pub rest : FallBelow commit versions

pub falls : (stamp : Stamp) (rest : List Version)
    → IsSomeAnd (commit_of stamp) (λ commit. FallBelow commit rest) → Falls stamp rest
falls (Unfinished tag) rest h = absurd h
falls (Prepared tag t) rest h = absurd h
falls (At c) rest h = record { commit = c; is = refl; rest = h }

pub fall_below : (read_at at : ℕ) (versions : List Version) → read_at < at → Fall versions
    → IfSome (newest_of versions) (λ commit. commit ≤ read_at) → FallBelow at versions
fall_below read_at at [] lt h newest = tt
fall_below read_at at (v ∷ versions) lt h newest =
    let f = falls v.stamp versions h in
    let low : f.commit ≤ read_at = rw f.is at newest in
    rw f.is (omega arith, f.rest)

pub fall_kept : (tag : Tag) (versions : List Version) → Fall versions
    → without tag versions ≡ versions
fall_kept tag [] h = refl
fall_kept tag (v ∷ versions) h =
    let f = falls v.stamp versions h in
    rw f.is (ap (λ (xs : List Version). record { stamp = At f.commit; doc = v.doc } ∷ xs)
    (all_kept tag f.commit versions f.rest))

pub fall_stamped : (tag : Tag) (st : Stamp) (versions : List Version) → Fall versions
    → map (restamped tag st) versions ≡ versions
fall_stamped tag st [] h = refl
fall_stamped tag st (v ∷ versions) h =
    let f = falls v.stamp versions h in
    rw f.is (ap (λ (xs : List Version). record { stamp = At f.commit; doc = v.doc } ∷ xs)
    (none_stamped tag st f.commit versions f.rest))

-- A transaction writes.

-- with a version of a transaction in front, in place of an older one of its own
abbrev pub wrote : Tag → Option Document → List Version → List Version
wrote tag doc versions = record { stamp = Unfinished tag; doc = doc } ∷ without tag versions

-- the key is as it was, or the transaction has written it, over commits at or below what it reads
-- at
abbrev pub IsMidFront : Tag → ℕ → List Pending → Table → List Version → Stamp → Type 0
IsMidFront tag read_at pending sessions rest (Unfinished t) = (same_tag t tag ≡ true) × Fall rest
    × IfSome (newest_of rest) (λ commit. commit ≤ read_at)
IsMidFront tag read_at pending sessions rest (Prepared t at) = (same_tag t tag ≡ false)
    × IsSomeAnd (pending_of pending t) (IsHeld sessions at rest)
IsMidFront tag read_at pending sessions rest (At at) = FallBelow at rest

abbrev pub IsMid : Tag → ℕ → List Pending → Table → List Version → Type 0
IsMid tag read_at pending sessions [] = ⊥
IsMid tag read_at pending sessions (v ∷ rest) = IsMidFront tag read_at pending sessions rest v.stamp

-- the key isn't held, and wasn't committed above this
abbrev pub IsOpenFront : ℕ → Stamp → Type 0
IsOpenFront read_at (Unfinished t) = Unit {0}
IsOpenFront read_at (Prepared t at) = ⊥
IsOpenFront read_at (At at) = at ≤ read_at

abbrev pub IsOpenKey : ℕ → List Version → Type 0
IsOpenKey read_at [] = Unit {0}
IsOpenKey read_at (v ∷ rest) = IsOpenFront read_at v.stamp

module _ (tag : Tag) (read_at : ℕ) (pending : List Pending) (sessions : Table) where
  wrote_front : (doc : Option Document) (stamp : Stamp) (old : Option Document) (rest :
      List Version) → IsMidFront tag read_at pending sessions rest stamp → IsOpenFront read_at stamp
      → IsMid tag read_at pending sessions
      (wrote tag doc (record { stamp = stamp; doc = old } ∷ rest))
  wrote_front doc (Unfinished t) old rest h o =
      rw (h.0, fall_kept tag rest h.1) (own_tag tag, h.1, h.2)
  wrote_front doc (Prepared t at) old rest h o = absurd o
  wrote_front doc (At at) old rest h o = rw (all_kept tag at rest h) (own_tag tag, h, o)

  pub wrote_mid : (doc : Option Document) (versions : List Version)
      → IsMid tag read_at pending sessions versions → IsOpenKey read_at versions
      → IsMid tag read_at pending sessions (wrote tag doc versions)
  wrote_mid doc [] h o = absurd h
  wrote_mid doc (v ∷ rest) h o = wrote_front doc v.stamp v.doc rest h o

  pub wrote_new : (doc : Option Document) → IsMid tag read_at pending sessions (wrote tag doc [])
  wrote_new doc = (own_tag tag, tt, tt)

  mid_held : (t : Tag) (at : ℕ) (rest : List Version) (test : Bool) → same_tag t tag ≡ test
      → pending_of pending tag ≡ None → IsSomeAnd (pending_of pending t) (IsHeld sessions at rest)
      → (test ≡ false) × IsSomeAnd (pending_of pending t) (IsHeld sessions at rest)
  mid_held t at rest true is new h =
      let e : pending_of pending t ≡ None = rw (tag_is t tag is) new in
      absurd (rw e at h)
  mid_held t at rest false is new h = (refl, h)

  mid_front : (rest : List Version) (stamp : Stamp) → pending_of pending tag ≡ None
      → IsFront pending sessions rest stamp → IsMidFront tag read_at pending sessions rest stamp
  mid_front rest (Unfinished t) new h = absurd h
  mid_front rest (Prepared t at) new h = mid_held t at rest (same_tag t tag) refl new h
  mid_front rest (At at) new h = h

  -- where the transaction has written nothing
  pub mid_of : (versions : List Version) → pending_of pending tag ≡ None
      → IsKey pending sessions versions → IsMid tag read_at pending sessions versions
  mid_of [] new h = absurd h
  mid_of (v ∷ rest) new h = mid_front rest v.stamp new h

-- Prepared transactions but one are as they were.
pub record Frames (tag : Tag) (pending : List Pending) (sessions : Table) (pending' : List Pending)
    (sessions' : Table) : Type 0 where
  pub same : (t : Tag) (q : Pending) → same_tag t tag ≡ false
      → pending_of pending t ≡ Some q → (pending_of pending' t ≡ Some q)
      × (prepare_time sessions' q.lsid ≡ prepare_time sessions q.lsid)

module _ (tag : Tag) (pending : List Pending) (sessions : Table) (pending' : List Pending)
    (sessions' : Table) (frame : Frames tag pending sessions pending' sessions') where
  held_case : (t : Tag) (at : ℕ) (rest : List Version) (found : Option Pending)
      → pending_of pending t ≡ found → same_tag t tag ≡ false
      → IsSomeAnd found (IsHeld sessions at rest)
      → IsSomeAnd (pending_of pending' t) (IsHeld sessions' at rest)
  held_case t at rest None is apart h = absurd h
  held_case t at rest (Some q) is apart h =
      let f = frame.same t q apart is in
      rw f.0 (record { below = h.below; free = h.free; time = f.1 ∙ h.time })

  pub held_still : (t : Tag) (at : ℕ) (rest : List Version) → same_tag t tag ≡ false
      → IsSomeAnd (pending_of pending t) (IsHeld sessions at rest)
      → IsSomeAnd (pending_of pending' t) (IsHeld sessions' at rest)
  held_still t at rest apart h = held_case t at rest (pending_of pending t) refl apart h

  -- commits stand behind a prepared version
  held_rest : (t : Tag) (at : ℕ) (rest : List Version) (found : Option Pending)
      → IsSomeAnd found (IsHeld sessions at rest) → FallBelow at rest
  held_rest t at rest None h = absurd h
  held_rest t at rest (Some q) h = h.below

  -- the transaction that wrote commits
  commits_front : (read_at at : ℕ) (stamp : Stamp) (doc : Option Document) (rest : List Version)
      → read_at < at → IsMidFront tag read_at pending sessions rest stamp
      → IsKey pending' sessions'
      (map (restamped tag (At at)) (record { stamp = stamp; doc = doc } ∷ rest))
  commits_front read_at at (Unfinished t) doc rest lt h =
      rw (h.0, fall_stamped tag (At at) rest h.1) (fall_below read_at at rest lt h.1 h.2)
  commits_front read_at at (Prepared t since) doc rest lt h =
      rw (
        h.0,
        none_stamped tag (At at) since rest (held_rest t since rest (pending_of pending t) h.1),
      ) (held_still t since rest h.0 h.1)
  commits_front read_at at (At c) doc rest lt h = rw (none_stamped tag (At at) c rest h) h

  pub commits_key : (read_at at : ℕ) (versions : List Version)
      → read_at < at → IsMid tag read_at pending sessions versions
      → IsKey pending' sessions' (map (restamped tag (At at)) versions)
  commits_key read_at at [] lt h = absurd h
  commits_key read_at at (v ∷ rest) lt h = commits_front read_at at v.stamp v.doc rest lt h

  -- or it is prepared
  prepares_front : (q : Pending) (at : ℕ) (stamp : Stamp) (doc : Option Document)
      (rest : List Version) → q.read_at < at → pending_of pending' tag ≡ Some q
      → prepare_time sessions' q.lsid ≡ Some at
      → IsMidFront tag q.read_at pending sessions rest stamp → IsKey pending' sessions'
      (map (restamped tag (Prepared tag at)) (record { stamp = stamp; doc = doc } ∷ rest))
  prepares_front q at (Unfinished t) doc rest lt is time h =
      rw (h.0, fall_stamped tag (Prepared tag at) rest h.1, is)
      (record { below = fall_below q.read_at at rest lt h.1 h.2; free = h.2; time = time })
  prepares_front q at (Prepared t since) doc rest lt is time h =
      rw (
        h.0,
        none_stamped tag (Prepared tag at) since rest
            (held_rest t since rest (pending_of pending t) h.1),
      ) (held_still t since rest h.0 h.1)
  prepares_front q at (At c) doc rest lt is time h =
      rw (none_stamped tag (Prepared tag at) c rest h) h

  pub prepares_key : (q : Pending) (at : ℕ) (versions : List Version) → q.read_at < at
      → pending_of pending' tag ≡ Some q → prepare_time sessions' q.lsid ≡ Some at
      → IsMid tag q.read_at pending sessions versions
      → IsKey pending' sessions' (map (restamped tag (Prepared tag at)) versions)
  prepares_key q at [] lt is time h = absurd h
  prepares_key q at (v ∷ rest) lt is time h = prepares_front q at v.stamp v.doc rest lt is time h

  -- A prepared transaction is decided.

  -- this one, prepared at this time
  held_time : (q : Pending) (since at : ℕ) (t : Tag) (rest : List Version) (found : Option Pending)
      → pending_of pending tag ≡ Some q → prepare_time sessions q.lsid ≡ Some since
      → same_tag t tag ≡ true → pending_of pending t ≡ found
      → IsSomeAnd found (IsHeld sessions at rest) → at ≡ since
  held_time q since at t rest None is time same found h = absurd h
  held_time q since at t rest (Some r) is time same found h =
      let e : pending_of pending t ≡ pending_of pending tag =
      ap (pending_of pending) (tag_is t tag same) in
      let one : r ≡ q = cc in
      let there : prepare_time sessions r.lsid ≡ Some at = h.time in
      let here : prepare_time sessions r.lsid ≡ Some since = rw one time in
      cc

  decided_case : (q : Pending) (since at t_at : ℕ) (t : Tag) (doc : Option Document)
      (rest : List Version) (test : Bool) → same_tag t tag ≡ test → since ≤ at
      → pending_of pending tag ≡ Some q → prepare_time sessions q.lsid ≡ Some since
      → IsSomeAnd (pending_of pending t) (IsHeld sessions t_at rest)
      → IsKey pending' sessions' ((if test then record { stamp = At at; doc = doc }
      else record { stamp = Prepared t t_at; doc = doc }) ∷ map (restamped tag (At at)) rest)
  decided_case q since at t_at t doc rest true same le is time h =
      let e = held_time q since t_at t rest (pending_of pending t) is time same refl h in
      let low = held_rest t t_at rest (pending_of pending t) h in
      rw (none_stamped tag (At at) t_at rest low) (falls_higher t_at at rest (omega (arith, e)) low)
  decided_case q since at t_at t doc rest false same le is time h =
      rw (none_stamped tag (At at) t_at rest (held_rest t t_at rest (pending_of pending t) h))
      (held_still t t_at rest same h)

  decided_front : (q : Pending) (since at : ℕ) (stamp : Stamp) (doc : Option Document)
      (rest : List Version) → since ≤ at → pending_of pending tag ≡ Some q
      → prepare_time sessions q.lsid ≡ Some since
      → IsFront pending sessions rest stamp → IsKey pending' sessions' (map (restamped tag (At at))
      (record { stamp = stamp; doc = doc } ∷ rest))
  decided_front q since at (Unfinished t) doc rest le is time h = absurd h
  decided_front q since at (Prepared t t_at) doc rest le is time h =
      decided_case q since at t_at t doc rest (same_tag t tag) refl le is time h
  decided_front q since at (At c) doc rest le is time h = rw (none_stamped tag (At at) c rest h) h

  pub decided_key : (q : Pending) (since at : ℕ) (versions : List Version) → since ≤ at
      → pending_of pending tag ≡ Some q → prepare_time sessions q.lsid ≡ Some since
      → IsKey pending sessions versions
      → IsKey pending' sessions' (map (restamped tag (At at)) versions)
  decided_key q since at [] le is time h = absurd h
  decided_key q since at (v ∷ rest) le is time h =
      decided_front q since at v.stamp v.doc rest le is time h

  -- or its versions are dropped: where some are left, they stand
  abbrev pub IsLeft : List Version → Type 0
  IsLeft [] = Unit {0}
  IsLeft (v ∷ rest) = IsFront pending' sessions' rest v.stamp

  left_of : (at : ℕ) (rest : List Version) → FallBelow at rest → IsLeft rest
  left_of at [] h = tt
  left_of at (v ∷ rest) h = let f = falls_at at v.stamp rest h in rw f.is f.rest

  dropped_case : (t_at : ℕ) (t : Tag) (doc : Option Document) (rest : List Version) (test : Bool)
      → same_tag t tag ≡ test → IsSomeAnd (pending_of pending t) (IsHeld sessions t_at rest)
      → IsLeft (cond (not test) (record { stamp = Prepared t t_at; doc = doc } ∷ without tag rest)
      (without tag rest))
  dropped_case t_at t doc rest true same h = let low = held_rest t t_at rest (pending_of pending t)
      h in rw (all_kept tag t_at rest low) (left_of t_at rest low)
  dropped_case t_at t doc rest false same h = rw (all_kept tag t_at rest
      (held_rest t t_at rest (pending_of pending t) h)) (held_still t t_at rest same h)

  dropped_front : (stamp : Stamp) (doc : Option Document) (rest : List Version)
      → IsFront pending sessions rest stamp
      → IsLeft (without tag (record { stamp = stamp; doc = doc } ∷ rest))
  dropped_front (Unfinished t) doc rest h = absurd h
  dropped_front (Prepared t t_at) doc rest h = dropped_case t_at t doc rest (same_tag t tag) refl h
  dropped_front (At c) doc rest h = rw (all_kept tag c rest h) h

  pub dropped_left : (versions : List Version) → IsKey pending sessions versions
      → IsLeft (without tag versions)
  dropped_left [] h = absurd h
  dropped_left (v ∷ rest) h = dropped_front v.stamp v.doc rest h
