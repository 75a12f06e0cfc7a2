-- What the calls of a shard's part need of it, and keep: of all that belongs to a part, the keys of
-- the transactions that are live or prepared, that each such one is of one session, and that no
-- other has a version.
use Rattle.std.specs.Prelude.{◌≡◌, ◌-◌, ℕ, min, nat_eq, nat_lt, Bool, true, false, List, [], ◌∷◌}
use Rattle.std.specs.Prelude.{map, Option, Some, None, Result, Ok, Err, IfSome, if◌then◌else◌}
use Rattle.txn_types.specs.Order.{same_tag, same_lsid}
use Rattle.txn_types.specs.declared.message.Statement.{Statement}
use Rattle.txn_types.specs.declared.names.Tag.{Tag}
use Rattle.txn_types.specs.declared.node.Lsid.{Lsid}
use Rattle.txn_types.specs.declared.operation.Op.{Op}
use Rattle.txn_types.specs.declared.write.Write.{Write}
use Rattle.txn_semantics.specs.Meaning.{Meaning, eval, ns_of}
use Rattle.txn_semantics.specs.Rows.{Row}
use Rattle.txn_semantics.specs.Touched.{touched}
use Rattle.txn_semantics.specs.Writes.{Place, place_of}
use Rattle.session_table.specs.Sessions.{prepared_at}
use Rattle.session_table.specs.declared.session.Session.{Session}
use Rattle.session_table.specs.declared.session.SessionState.{SessionState}
use Rattle.session_table.specs.declared.session.SessionState.TheVariants as state
use Rattle.version_store.specs.Versions.{Versions, keys_of, dropped, scan}
use Rattle.version_store.specs.declared.version.Held.{Held}
use Rattle.version_store.specs.declared.version.Pending.{Pending}
use Rattle.participant.specs.declared.said.Open.{Open}
use Rattle.participant.specs.declared.said.Meant.{Meant}
use Rattle.participant.specs.declared.said.Meant.TheVariants.{HeldBy, Refused, Does}
use Rattle.participant.specs.Expiry.{lifetime}
use Rattle.participant.specs.Part.{Part, session, open_of, is_open}

-- a live transaction has something here, and its versions are of the documents that it wrote; no
-- other has
abbrev pub StateAt : Versions → Session → SessionState → Option Open → Type 0
StateAt store s state.Live None = ⊥
StateAt store s state.Live (Some o) = (o.tag ≡ s.tag)
    × (map place_of o.writes ≡ keys_of s.tag store)
StateAt store s (state.Prepared at coordinator) o = o ≡ None
StateAt store s (state.Committed at) o = o ≡ None
StateAt store s state.Released o = o ≡ None
StateAt store s (state.Aborted why read_at) o = o ≡ None

abbrev pub SessionAt : Versions → Option Session → Option Open → Type 0
SessionAt store None o = o ≡ None
SessionAt store (Some s) o = StateAt store s s.state o

-- the keys of the newest prepared transaction of a tag, or these where there is none
abbrev pub newest_keys : Tag → List Place → List Pending → List Place
newest_keys tag keys [] = keys
newest_keys tag keys (q ∷ pending) =
    newest_keys tag (if same_tag q.tag tag then q.keys else keys) pending

-- the keys of a tag among the prepared transactions
abbrev pub pending_keys : Part → Tag → List Place
pending_keys p tag = newest_keys tag [] p.pending

-- no session has this tag, live or prepared
abbrev pub IsClosed : Part → Tag → Type 0
IsClosed p tag = (lsid : Lsid) (s : Session) → session p lsid ≡ Some s → is_open s.state ≡ true
    → same_tag s.tag tag ≡ false

-- each session has what its state says; one whose transaction is prepared has its keys among the
-- prepared ones; open transactions of one tag are of one session; and what isn't committed is of an
-- open one
pub record Stands (p : Part) : Type 0 where
  pub sessions : (lsid : Lsid) → SessionAt p.store (session p lsid) (open_of p lsid)
  pub pending : (lsid : Lsid) (s : Session) (at coordinator : ℕ) → session p lsid ≡ Some s
      → s.state ≡ state.Prepared at coordinator → pending_keys p s.tag ≡ keys_of s.tag p.store
  pub apart : (a b : Lsid) (s t : Session) → session p a ≡ Some s → session p b ≡ Some t
      → is_open s.state ≡ true → is_open t.state ≡ true → same_tag s.tag t.tag ≡ true
      → same_lsid a b ≡ true
  pub owned : (tag : Tag) → IsClosed p tag → keys_of tag p.store ≡ []

-- whether a transaction wrote here
abbrev pub has_written : List Write → Bool
has_written [] = false
has_written (write ∷ writes) = true

abbrev pub has_writes : Option Open → Bool
has_writes None = false
has_writes (Some o) = has_written o.writes

-- what stands among the prepared transactions for one that was live
abbrev pub pending_of : Lsid → Open → Pending
pending_of lsid o =
    record { tag = o.tag; lsid = lsid; read_at = o.read_at; keys = map place_of o.writes }

-- whether a live transaction is too old
abbrev pub is_older : ℕ → Lsid × Open → Bool
is_older wall entry = nat_lt lifetime (wall - entry.1.begun)

-- the lesser of two, where both are there
abbrev pub lesser : Option ℕ → Option ℕ → Option ℕ
lesser None b = b
lesser (Some a) None = Some a
lesser (Some a) (Some b) = Some (min a b)

-- What a statement finds and leaves.

-- the session, where its transaction is the statement's and live
abbrev pub live_session : Statement → Session
live_session m = record { number = m.number; tag = m.tag; state = state.Live }

-- the versions without those of a live transaction, where it has another tag
abbrev pub without_older : Tag → Option Open → Versions → Versions
without_older tag None store = store
without_older tag (Some o) store = if same_tag o.tag tag then store else dropped o.tag store

-- the versions without those of a live transaction
abbrev pub without_open : Option Open → Versions → Versions
without_open None store = store
without_open (Some o) store = dropped o.tag store

-- what the session's live transaction has, where it has this tag
abbrev pub mine_of : Tag → Option Open → Option Open
mine_of tag None = None
mine_of tag (Some o) = if same_tag o.tag tag then Some o else None

abbrev pub mine : Part → Statement → Option Open
mine p m = mine_of m.tag (open_of p m.lsid)

-- it reads at this time, and the statement comes after its newest one
abbrev pub IsNext : Statement → ℕ → Open → Type 0
IsNext m at o = (o.read_at ≡ at) × (nat_eq m.k o.k ≡ false) × (nat_lt m.k o.k ≡ false)

-- the session's transaction isn't prepared
abbrev pub CanLeave : Option Session → Type 0
CanLeave s = IfSome s (λ t. prepared_at t.state ≡ None)

-- what comes of an operation over what a transaction sees: a key is held, it is refused, or its
-- reply and writes
abbrev pub meant_over : Meaning → Meant
meant_over (Err err) = Refused err
meant_over (Ok done) = Does done.0 done.1

abbrev pub meant_by : Op → Result (List Row) Held → Meant
meant_by op (Err held) = HeldBy held
meant_by op (Ok rows) = meant_over (eval op rows)

abbrev pub meant : Part → Statement → ℕ → Meant
meant p m at = meant_by m.op (scan p.store (ns_of m.op) (touched m.op) at m.tag)
