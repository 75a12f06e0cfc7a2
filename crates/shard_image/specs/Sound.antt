-- What belongs to the state that records leave, each of which could follow those before it: the
-- sessions, the prepared transactions and the versions are of one piece, and no transaction is
-- live.
use Rattle.std.specs.Prelude.{◌≡◌, ◌≤◌, ◌<◌, ℕ, List, [], ◌∷◌, map, find, length, Option, Some}
use Rattle.std.specs.Prelude.{option_and_then, IfSome, IsSomeAnd}
use Rattle.std.specs.List.{AllByRecursion}
use Rattle.txn_types.specs.Order.{same_tag}
use Rattle.txn_types.specs.declared.names.Tag.{Tag}
use Rattle.txn_types.specs.declared.node.Lsid.{Lsid}
use Rattle.txn_semantics.specs.Keyed.{Rises}
use Rattle.txn_semantics.specs.Writes.{place_cmp, placed}
use Rattle.session_table.specs.Sessions.{Table, session_of, prepared_at}
use Rattle.session_table.specs.declared.session.Session.{Session}
use Rattle.session_table.specs.declared.session.SessionState.{SessionState}
use Rattle.session_table.specs.declared.session.SessionState.TheVariants as state
use Rattle.version_store.specs.Versions.{Versions, FallBelow, newest_of, keys_of}
use Rattle.version_store.specs.declared.version.Pending.{Pending}
use Rattle.version_store.specs.declared.version.Stamp.{Stamp}
use Rattle.version_store.specs.declared.version.Stamp.TheVariants.{Unfinished, Prepared, At}
use Rattle.version_store.specs.declared.version.Version.{Version}
use Rattle.journal_rec.specs.Follows.{most_sessions}
use Rattle.journal_rec.specs.declared.record.Rec.{Rec}
use Rattle.journal_rec.specs.declared.record.Rec.TheVariants as rec
use Rattle.shard_image.specs.Image.{Image}

-- the writes of a record rise by document, as its bytes have them
abbrev pub IsWritten : Rec → Type 0
IsWritten (rec.Commit tag lsid number read_at at writes) = Rises place_cmp (map placed writes)
IsWritten (rec.Prepared tag lsid number boot read_at at coordinator writes) =
    Rises place_cmp (map placed writes)
IsWritten other = Unit {0}

abbrev pub AreWritten : List Rec → Type 0
AreWritten recs = AllByRecursion IsWritten recs

-- the prepared transaction of this tag
abbrev pub pending_of : List Pending → Tag → Option Pending
pending_of pending tag = find (λ q. same_tag q.tag tag) pending

-- when the session's transaction was prepared
abbrev pub prepare_time : Table → Lsid → Option ℕ
prepare_time sessions lsid = option_and_then (λ s. prepared_at s.state) (session_of sessions lsid)

-- a version that this transaction prepared at this time stands above these versions: they are
-- commits below that time, the newest at or below what the transaction read at
pub record IsHeld (sessions : Table) (at : ℕ) (versions : List Version) (q : Pending) : Type 0 where
  pub below : FallBelow at versions
  pub free : IfSome (newest_of versions) (λ commit. commit ≤ q.read_at)
  pub time : prepare_time sessions q.lsid ≡ Some at

-- a key has a version, and they stand newest first; one that isn't a commit's is of a prepared
-- transaction
abbrev pub IsFront : List Pending → Table → List Version → Stamp → Type 0
IsFront pending sessions versions (Unfinished tag) = ⊥
IsFront pending sessions versions (Prepared tag at) =
    IsSomeAnd (pending_of pending tag) (IsHeld sessions at versions)
IsFront pending sessions versions (At at) = FallBelow at versions

abbrev pub IsKey : List Pending → Table → List Version → Type 0
IsKey pending sessions [] = ⊥
IsKey pending sessions (version ∷ versions) = IsFront pending sessions versions version.stamp

-- the session's transaction is this one, prepared at a time above what it read at; it alone has its
-- tag, and its keys are those with a version of it
pub record IsPending (pending : List Pending) (sessions : Table) (store : Versions) (q : Pending)
    (s : Session) (at : ℕ) : Type 0 where
  pub first : pending_of pending q.tag ≡ Some q
  pub session : session_of sessions q.lsid ≡ Some s
  pub tag : s.tag ≡ q.tag
  pub state : prepared_at s.state ≡ Some at
  pub later : q.read_at < at
  pub keys : keys_of q.tag store ≡ q.keys

abbrev pub Pends : List Pending → Table → Versions → Pending → Type 0
Pends pending sessions store q = (s : Session) × (at : ℕ) × IsPending pending sessions store q s at

-- a session whose transaction is prepared has it among the prepared ones
abbrev pub HasIts : List Pending → Lsid → Tag → SessionState → Type 0
HasIts pending lsid tag state.Live = ⊥
HasIts pending lsid tag (state.Prepared at coordinator) =
    IsSomeAnd (pending_of pending tag) (λ q. q.lsid ≡ lsid)
HasIts pending lsid tag (state.Committed at) = Unit {0}
HasIts pending lsid tag state.Released = Unit {0}
HasIts pending lsid tag (state.Aborted why read_at) = Unit {0}

pub record IsImage (i : Image) : Type 0 where
  pub rises : Rises place_cmp i.store
  pub keys : AllByRecursion (λ key. IsKey i.pending i.sessions key.1) i.store
  pub pending : AllByRecursion (λ q. Pends i.pending i.sessions i.store q) i.pending
  pub sessions : (lsid : Lsid) (s : Session) → session_of i.sessions lsid ≡ Some s
      → HasIts i.pending lsid s.tag s.state
  pub limit : i.sessions.limit ≡ most_sessions
  pub most : length i.sessions.entries ≤ most_sessions
