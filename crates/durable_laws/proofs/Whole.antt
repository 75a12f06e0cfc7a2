-- What holds of a shard's part, beside that each session has what its state says: by place and by
-- transaction.
use Rattle.std.specs.Prelude.{◌≡◌, ◌≤◌, ◌<◌, ℕ, true, map, List, [], ◌∷◌, Some, is_some, unwrap_or}
use Rattle.std.specs.List.{list_any}
use Rattle.txn_types.specs.Order.{same_tag, lsid_cmp}
use Rattle.txn_types.specs.declared.names.Tag.{Tag}
use Rattle.txn_types.specs.declared.node.Lsid.{Lsid}
use Rattle.txn_semantics.specs.Keyed.{Rises}
use Rattle.txn_semantics.specs.Writes.{Place, place_cmp, placed}
use Rattle.session_table.specs.declared.session.Session.{Session}
use Rattle.session_table.specs.declared.session.SessionState.TheVariants as state
use Rattle.version_store.specs.declared.version.Pending.{Pending}
use Rattle.version_store.specs.declared.version.Stamp.{Stamp}
use Rattle.version_store.specs.declared.version.Stamp.TheVariants.{Unfinished, Prepared}
use Rattle.version_store.specs.declared.version.Version.{Version}
use Rattle.version_store.specs.Versions.{Versions, versions_of, has_versions, is_of, newest_of}
use Rattle.version_store.specs.Versions.{keys_of, StandsBefore}
use Rattle.participant.specs.declared.said.Open.{Open}
use Rattle.participant.specs.Part.{Part, session, open_of}
use Rattle.participant.specs.Stands.{Stands}
use Rattle.part_laws.specs.Each.{Each}
use Rattle.part_laws.specs.Seen.{wrote_at}
use Rattle.part_laws.specs.Chain.{own_at}
use Rattle.durable_laws.specs.Backed.{AreApart}

-- Versions.

-- each key has a version
abbrev pub AreFilled : Versions → Type 0
AreFilled store = Each (λ key. has_versions key ≡ true) store

-- newest first, at most one of them not committed, which is then the first
abbrev pub AreNewestFirst : List Version → Type 0
AreNewestFirst [] = Unit {0}
AreNewestFirst (version ∷ versions) = StandsBefore versions version.stamp

-- where the newest commit of these is, 0 where there is none
abbrev pub newest_commit : List Version → ℕ
newest_commit versions = unwrap_or (newest_of versions) 0

abbrev pub HasStamp : Tag → Stamp → Version → Type 0
HasStamp tag stamp version = is_of tag version ≡ true → version.stamp ≡ stamp

-- the transaction's versions have this stamp, and stand over commits at or below this moment
pub record IsOver (store : Versions) (tag : Tag) (stamp : Stamp) (moment : ℕ) : Type 0 where
  pub stamps : (place : Place) → Each (HasStamp tag stamp) (versions_of store place)
  pub behind : (place : Place) → is_some (own_at tag (versions_of store place)) ≡ true
      → newest_commit (versions_of store place) ≤ moment

-- A part.

-- a live transaction: it reads at or below the clock; its versions are its writes, one for each
-- document, over commits at or below what it reads at
pub record LiveHas (store : Versions) (last : ℕ) (o : Open) : Type 0 where
  pub reads : o.read_at ≤ last
  pub rises : Rises place_cmp (map placed o.writes)
  pub own : (place : Place) → own_at o.tag (versions_of store place) ≡ wrote_at place o.writes
  pub over : IsOver store o.tag (Unfinished o.tag) o.read_at

-- a prepared transaction: its session has it, prepared at a time above what it reads at, and its
-- versions are so
pub record PendingHas (p : Part) (q : Pending) : Type 0 where
  pub s : Session
  pub at : ℕ
  pub coordinator : ℕ
  pub session : session p q.lsid ≡ Some s
  pub tag : s.tag ≡ q.tag
  pub state : s.state ≡ state.Prepared at coordinator
  pub later : q.read_at < at
  pub keys : keys_of q.tag p.store ≡ q.keys
  pub over : IsOver p.store q.tag (Prepared q.tag at) q.read_at

-- a shard's part at a clock's last time
pub record IsWhole (p : Part) (last : ℕ) : Type 0 where
  pub stands : Stands p
  pub rises : Rises place_cmp p.store
  pub filled : AreFilled p.store
  pub newest : (place : Place) → AreNewestFirst (versions_of p.store place)
  pub lives : Rises lsid_cmp p.live
  pub live : (lsid : Lsid) (o : Open) → open_of p lsid ≡ Some o → LiveHas p.store last o
  pub pending : Each (PendingHas p) p.pending
  pub prepared : (lsid : Lsid) (s : Session) (at coordinator : ℕ)
      → session p lsid ≡ Some s → s.state ≡ state.Prepared at coordinator
      → list_any (λ q. same_tag q.tag s.tag) p.pending ≡ true
  pub apart : AreApart p.sessions.entries
