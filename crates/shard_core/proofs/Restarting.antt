-- What the state of records leaves of a shard's part: no transaction is live, and prepared ones are
-- of one session.
use Rattle.std.proofs.Common.{◌≡◌, ℕ, Bool, true, false, cond, List, [], ◌∷◌, find, Option, Some}
use Rattle.std.proofs.Common.{None, IsSomeAnd, if◌then◌else◌, refl, ap, sym, ◌∙◌}
use Rattle.std.specs.List.{AllByRecursion}
use Rattle.bson_core.specs.Fields.{Document}
use Rattle.txn_types.specs.Order.{same_tag, same_lsid}
use Rattle.txn_types.specs.declared.names.Tag.{Tag}
use Rattle.txn_types.specs.declared.node.Lsid.{Lsid}
use Rattle.session_table.specs.Sessions.{session_of, prepared_at}
use Rattle.session_table.specs.declared.session.Session.{Session}
use Rattle.session_table.specs.declared.session.SessionState.{SessionState}
use Rattle.session_table.specs.declared.session.SessionState.TheVariants as state
use Rattle.txn_semantics.specs.Writes.{Place}
use Rattle.version_store.specs.Versions.{Versions, keys_of, is_of, FallBelow}
use Rattle.version_store.specs.declared.version.Pending.{Pending}
use Rattle.version_store.specs.declared.version.Stamp.{Stamp}
use Rattle.version_store.specs.declared.version.Stamp.TheVariants.{Unfinished, Prepared, At}
use Rattle.version_store.specs.declared.version.Version.{Version}
use Rattle.participant.specs.Part.{Part, is_open}
use Rattle.participant.specs.Stands.{Stands, StateAt, SessionAt, IsClosed, newest_keys}
use Rattle.shard_image.specs.Image.{Image}
use Rattle.shard_image.specs.Sound.{IsImage, IsHeld, IsFront, IsKey, Pends, HasIts, pending_of}
use Rattle.shard_image.proofs.Found.{each_as, found_passes, found_holds}
use Rattle.shard_image.proofs.Fronts.{tag_is, falls_at}
use Rattle.shard_image.proofs.Sessions.{own_lsid}

-- the part of a shard that starts with this state
abbrev pub part_of : ℕ → Image → Part
part_of shard i = record {
  shard = shard;
  boot = i.boot;
  sessions = i.sessions;
  live = [];
  pending = i.pending;
  store = i.store;
}

state_stands : (i : Image) (lsid : Lsid) (s : Session) (st : SessionState)
    → HasIts i.pending lsid s.tag st → StateAt i.store s st None
state_stands i lsid s state.Live has = has
state_stands i lsid s (state.Prepared at coordinator) has = refl
state_stands i lsid s (state.Committed at) has = refl
state_stands i lsid s state.Released has = refl
state_stands i lsid s (state.Aborted why read_at) has = refl

session_stands : (i : Image) (h : IsImage i) (lsid : Lsid) (o : Option Session)
    → session_of i.sessions lsid ≡ o → SessionAt i.store o None
session_stands i h lsid None is = refl
session_stands i h lsid (Some s) is = state_stands i lsid s s.state (h.sessions lsid s is)

-- an open transaction is prepared, and of the session that its prepared one names
prepared_by : (i : Image) (lsid : Lsid) (tag : Tag) (st : SessionState)
    → HasIts i.pending lsid tag st → is_open st ≡ true
    → IsSomeAnd (pending_of i.pending tag) (λ q. q.lsid ≡ lsid)
prepared_by i lsid tag state.Live has open_ = absurd has
prepared_by i lsid tag (state.Prepared at coordinator) has open_ = has
prepared_by i lsid tag (state.Committed at) has open_ = cc
prepared_by i lsid tag state.Released has open_ = cc
prepared_by i lsid tag (state.Aborted why read_at) has open_ = cc

one_session : (a b : Lsid) (o : Option Pending) → IsSomeAnd o (λ q. q.lsid ≡ a)
    → IsSomeAnd o (λ q. q.lsid ≡ b) → same_lsid a b ≡ true
one_session a b None h k = absurd h
one_session a b (Some q) h k = let same : a ≡ b = sym h ∙ k in
    ap (same_lsid a) (sym same) ∙ own_lsid a

-- The keys of the newest prepared transaction of a tag.

abbrev HaveKeys : Tag → List Place → List Pending → Type 0
HaveKeys tag keys pending = AllByRecursion (λ q. same_tag q.tag tag ≡ true → q.keys ≡ keys) pending

newest_case : (q : Pending) (old keys : List Place) (b : Bool) → (b ≡ true → q.keys ≡ keys)
    → old ≡ keys → (if b then q.keys else old) ≡ keys
newest_case q old keys true own is = own refl
newest_case q old keys false own is = is

newest_same : (tag : Tag) (keys old : List Place) (pending : List Pending)
    → HaveKeys tag keys pending → old ≡ keys → newest_keys tag old pending ≡ keys
newest_same tag keys old [] all is = is
newest_same tag keys old (q ∷ pending) all is = newest_same tag keys (if same_tag q.tag tag
    then q.keys else old) pending all.1 (newest_case q old keys (same_tag q.tag tag) all.0 is)

there_case : (tag : Tag) (keys old : List Place) (q r : Pending) (pending : List Pending) (b : Bool)
    → (b ≡ true → q.keys ≡ keys) → HaveKeys tag keys pending
    → cond b (Some q) (pending_of pending tag) ≡ Some r
    → (pending_of pending tag ≡ Some r → newest_keys tag old pending ≡ keys)
    → newest_keys tag (if b then q.keys else old) pending ≡ keys
there_case tag keys old q r pending true own all is more =
    newest_same tag keys q.keys pending all (own refl)
there_case tag keys old q r pending false own all is more = more is

newest_there : (tag : Tag) (keys old : List Place) (pending : List Pending) (r : Pending)
    → HaveKeys tag keys pending → pending_of pending tag ≡ Some r
    → newest_keys tag old pending ≡ keys
newest_there tag keys old [] r all is = cc
newest_there tag keys old (q ∷ pending) r all is = there_case tag keys old q r pending
    (same_tag q.tag tag) all.0 all.1 is (λ later. newest_there tag keys old pending r all.1 later)

own_keys : (i : Image) (tag : Tag) (q : Pending) → Pends i.pending i.sessions i.store q
    → same_tag q.tag tag ≡ true → q.keys ≡ keys_of tag i.store
own_keys i tag q p same = sym p.2.keys ∙ ap (λ (t : Tag). keys_of t i.store) (tag_is q.tag tag same)

keys_case : (i : Image) (h : IsImage i) (lsid : Lsid) (tag : Tag) (o : Option Pending)
    → pending_of i.pending tag ≡ o → IsSomeAnd o (λ q. q.lsid ≡ lsid)
    → newest_keys tag [] i.pending ≡ keys_of tag i.store
keys_case i h lsid tag None is has = absurd has
keys_case i h lsid tag (Some r) is has =
    newest_there tag (keys_of tag i.store) [] i.pending r
    (each_as (Pends i.pending i.sessions i.store) (λ (q : Pending). same_tag q.tag tag ≡ true
    → q.keys ≡ keys_of tag i.store) i.pending (own_keys i tag) h.pending) is

-- A transaction that no session has open has no version.

-- what was prepared is open
prepared_open : (st : SessionState) (at : ℕ) → prepared_at st ≡ Some at → is_open st ≡ true
prepared_open state.Live at h = cc
prepared_open (state.Prepared since coordinator) at h = refl
prepared_open (state.Committed since) at h = cc
prepared_open state.Released at h = cc
prepared_open (state.Aborted why read_at) at h = cc

none_fall : (tag : Tag) (at : ℕ) (versions : List Version) → FallBelow at versions
    → find (is_of tag) versions ≡ None
none_fall tag at [] h = refl
none_fall tag at (v ∷ versions) h = let f = falls_at at v.stamp versions h in
    rw f.is (none_fall tag f.commit versions f.rest)

module _ (shard : ℕ) (i : Image) (h : IsImage i) (tag : Tag)
    (closed : IsClosed (part_of shard i) tag) where
  pending_apart : (q : Pending) → Pends i.pending i.sessions i.store q → same_tag q.tag tag ≡ false
  pending_apart q p =
      let is_open_ : is_open p.0.state ≡ true = prepared_open p.0.state p.1 p.2.state in
      let apart : same_tag p.0.tag tag ≡ false = closed q.lsid p.0 p.2.session is_open_ in
      rw (sym p.2.tag) apart

  held_apart : (t : Tag) (at : ℕ) (rest : List Version) (o : Option Pending)
      → pending_of i.pending t ≡ o → IsSomeAnd o (IsHeld i.sessions at rest)
      → same_tag t tag ≡ false
  held_apart t at rest None is held = absurd held
  held_apart t at rest (Some q) is held =
      let own : q.tag ≡ t =
      tag_is q.tag t (found_passes (λ (q : Pending). same_tag q.tag t) i.pending q is) in
      let apart = pending_apart q (found_holds (λ (q : Pending). same_tag q.tag t)
      (Pends i.pending i.sessions i.store) i.pending q h.pending is) in
      rw (sym own) apart

  held_below : (at : ℕ) (rest : List Version) (o : Option Pending)
      → IsSomeAnd o (IsHeld i.sessions at rest) → FallBelow at rest
  held_below at rest None held = absurd held
  held_below at rest (Some q) held = held.below

  none_front : (rest : List Version) (doc : Option Document) (stamp : Stamp)
      → IsFront i.pending i.sessions rest stamp
      → find (is_of tag) (record { stamp = stamp; doc = doc } ∷ rest) ≡ None
  none_front rest doc (Unfinished t) front = absurd front
  none_front rest doc (Prepared t at) front =
      rw (held_apart t at rest (pending_of i.pending t) refl front)
      (none_fall tag at rest (held_below at rest (pending_of i.pending t) front))
  none_front rest doc (At at) front = none_fall tag at rest front

  none_key : (versions : List Version) → IsKey i.pending i.sessions versions
      → find (is_of tag) versions ≡ None
  none_key [] key = absurd key
  none_key (v ∷ rest) key = none_front rest v.doc v.stamp key

  none_written : (store : Versions) → AllByRecursion (λ key. IsKey i.pending i.sessions key.1) store
      → keys_of tag store ≡ []
  none_written [] all = refl
  none_written (key ∷ store) all = rw (none_key key.1 all.0) (none_written store all.1)

pub image_stands : (shard : ℕ) (i : Image) → IsImage i → Stands (part_of shard i)
image_stands shard i h =
    record {
      sessions = λ lsid. session_stands i h lsid (session_of i.sessions lsid) refl;
      pending = λ lsid s at coordinator is st. keys_case i h lsid s.tag (pending_of i.pending s.tag)
          refl (prepared_by i lsid s.tag s.state (h.sessions lsid s is) (ap is_open st));
      apart = λ a b s t is there open_s open_t same.
          let first = prepared_by i a s.tag s.state (h.sessions a s is) open_s in
          let second = prepared_by i b t.tag t.state (h.sessions b t there) open_t in
          let tag : s.tag ≡ t.tag = tag_is s.tag t.tag same in
          one_session a b (pending_of i.pending s.tag) first (rw tag second);
      owned = λ tag closed. none_written shard i h tag closed i.store h.keys;
    }
