-- What stands where a cause is made. A cause that a reply tells was made by some step of the shard
-- that the reply names, at or before the reply: one that told it, or that ended the transaction
-- with it.
use Rattle.std.specs.Prelude.{◌≡◌, ◌≢◌, ◌<◌, ◌≤◌, ◌⊎◌, ℕ, ℤ, ◌+◌, ◌-◌, ◌^◌, ◌<ℤ◌, Bool, true, false}
use Rattle.std.specs.Prelude.{List, [], ◌∷◌, ◌++◌, filter, filter_map, take, nat_eq, nat_lt, All}
use Rattle.std.specs.Prelude.{Contains, Option, Some, None, unwrap_or, option_map, slice_get, Err}
use Rattle.std.specs.Prelude.{if◌then◌else◌}
use Rattle.std.specs.List.{list_any}
use Rattle.txn_types.specs.Limits.{most_written}
use Rattle.txn_types.specs.Causes.{cause_number}
use Rattle.txn_types.specs.Order.{same_id, same_tag}
use Rattle.txn_types.specs.declared.cause.By.TheVariants as by
use Rattle.txn_types.specs.declared.cause.Cause.{Cause}
use Rattle.txn_types.specs.declared.cause.Cause.TheVariants as cause
use Rattle.txn_types.specs.declared.decision.Decision.TheVariants as decision
use Rattle.txn_types.specs.declared.decision.Told.TheVariants as told
use Rattle.txn_types.specs.declared.event.Happening.{Happening}
use Rattle.txn_types.specs.declared.event.Happening.TheVariants as what
use Rattle.txn_types.specs.declared.event.NodeAnswer.{NodeAnswer}
use Rattle.txn_types.specs.declared.event.NodeAnswer.TheVariants.{DiskFault}
use Rattle.txn_types.specs.declared.event.NodeEvent.{NodeEvent}
use Rattle.txn_types.specs.declared.id.Id.{Id}
use Rattle.txn_types.specs.declared.message.Envelope.{Envelope}
use Rattle.txn_types.specs.declared.message.Msg.{Msg}
use Rattle.txn_types.specs.declared.message.Msg.TheVariants as msg
use Rattle.txn_types.specs.declared.message.Statement.{Statement}
use Rattle.txn_types.specs.declared.names.Tag.{Tag}
use Rattle.txn_types.specs.declared.node.Lsid.{Lsid}
use Rattle.txn_types.specs.declared.node.Lsid.TheVariants.{Own}
use Rattle.txn_types.specs.declared.node.NodeId.TheVariants.{Shard, Router}
use Rattle.txn_types.specs.declared.write.Write.{Write}
use Rattle.txn_semantics.specs.Answers.{own_writes, of_tag}
use Rattle.txn_semantics.specs.Meaning.{eval, writes_of, ns_of}
use Rattle.txn_semantics.specs.Rows.{Row, under, at as rows_at}
use Rattle.txn_semantics.specs.Splits.{here}
use Rattle.txn_semantics.specs.View.{view}
use Rattle.txn_semantics.specs.Writes.{place_of, write_set}
use Rattle.txn_semantics.specs.declared.commits.Answered.{Answered}
use Rattle.txn_semantics.specs.declared.commits.Entry.{Entry}
use Rattle.session_table.specs.Sessions.{is_full}
use Rattle.session_table.specs.declared.session.Session.{Session}
use Rattle.session_table.specs.declared.session.SessionState.{SessionState}
use Rattle.session_table.specs.declared.session.SessionState.TheVariants as state
use Rattle.version_store.specs.Versions.{Versions, is_of}
use Rattle.journal_rec.specs.Volume.{volume}
use Rattle.journal_rec.specs.declared.record.Rec.{Rec}
use Rattle.journal_rec.specs.declared.record.Rec.TheVariants as rec
use Rattle.coordinator.specs.TwoPhase.{Coordinated, coordinated_of}
use Rattle.participant.specs.Part.{Part, session, open_of}
use Rattle.participant.specs.declared.said.Open.{Open}
use Rattle.shard_core.specs.State.{ShardState, met}
use Rattle.shard_core.specs.Core.{entered}
use Rattle.shard_core.specs.NodeStep.{NodeState}
use Rattle.client_cmd.specs.declared.request.Request.TheVariants as request
use Rattle.client_cmd.specs.declared.request.Txn.{Txn}
use Rattle.chunk_map.specs.Map.{Map}
use Rattle.chunk_map.specs.Place.{shard_of}
use Rattle.router_state.specs.State.{RouterState}
use Rattle.txn_model.specs.declared.ran.Ran.{Ran}
use Rattle.txn_model.specs.declared.ran.Ran.TheVariants.{Step, Swapped}
use Rattle.cluster_core.specs.Nodes.{Nodes, commits_of, journals_of}
use Rattle.txn_types.specs.Letters.{given_out}
use Rattle.cluster_core.specs.Trace.{At}
use Rattle.cluster_core.specs.Answering.{Unanswered}
use Rattle.cluster_core.specs.Replying.{tag_in, txn_of}
use Rattle.cluster_core.specs.Routers.{Asked, request_at}
use Rattle.cluster_core.specs.Ledger.{Ledger, fresh_ledger, ledger_behind, answered_in}
use Rattle.cluster_core.specs.Telling.{Telling, Meant, Done, Undone, Caused}

-- A run, the nodes before each of its steps, those after it, and the map of its chunks.
pub record Past : Type 0 where
  pub chunks : Map
  pub routers : List RouterState
  pub run : List Ran
  pub trace : List Nodes
  pub now : Nodes

-- Where a cause was made: the shard before and after the step, its event and its answer; and the
-- session and number of the transaction.
pub record Making : Type 0 where
  pub place : ℕ
  pub shard : ℕ
  pub tag : Tag
  pub lsid : Lsid
  pub number : ℤ
  pub before : NodeState
  pub event : NodeEvent
  pub answer : NodeAnswer
  pub after : NodeState

-- the shard's core as the rule of the event meets it
abbrev pub met_at : ShardState → Happening → ShardState
met_at s (what.Deliver e) = met s e
met_at s other = s

abbrev pub core_at : Making → ShardState
core_at m = met_at (entered m.before.core m.event) m.event.what

abbrev pub part_at : Making → Part
part_at m = (core_at m).part

-- a message tells this cause of the transaction
abbrev pub Tells : Tag → Cause → Msg → Type 0
Tells tag why (msg.Answer a) = (a.tag ≡ tag) × (a.outcome ≡ Err why)
Tells tag why (msg.Outcome o) = (o.tag ≡ tag) × (o.told ≡ told.Aborted why)
Tells tag why (msg.Vote v) = (v.tag ≡ tag) × (v.vote ≡ Err why)
Tells tag why other = ⊥

abbrev pub TellsCause : Making → Cause → Type 0
TellsCause m why = (e : Envelope) × Contains (given_out m.answer) e × Tells m.tag why e.msg

-- the step ended the transaction with this cause
abbrev pub is_aborted : SessionState → Bool
is_aborted (state.Aborted why read_at) = true
is_aborted other = false

pub record EndsWith (m : Making) (why : Cause) : Type 0 where
  pub old : Session
  pub new : Session
  pub read_at : ℕ
  pub was : session m.before.core.part m.lsid ≡ Some old
  pub own : old.tag ≡ m.tag
  pub unended : is_aborted old.state ≡ false
  pub is : session m.after.core.part m.lsid ≡ Some new
  pub same : new.tag ≡ m.tag
  pub ended : new.state ≡ state.Aborted why read_at

-- the message names the transaction, or the session has it before
abbrev pub Names : Tag → Lsid → ℤ → Msg → Type 0
Names tag lsid number (msg.Statement m) = (m.tag ≡ tag) × (m.lsid ≡ lsid) × (m.number ≡ number)
Names tag lsid number (msg.Commit m) = (m.tag ≡ tag) × (m.lsid ≡ lsid) × (m.number ≡ number)
Names tag lsid number (msg.CommitTwo m) = (m.tag ≡ tag) × (m.lsid ≡ lsid) × (m.number ≡ number)
Names tag lsid number (msg.Prepare m) = (m.tag ≡ tag) × (m.lsid ≡ lsid) × (m.number ≡ number)
Names tag lsid number (msg.Recover m) = (m.tag ≡ tag) × (m.lsid ≡ lsid) × (m.number ≡ number)
Names tag lsid number other = ⊥

abbrev pub NamesAt : Making → Happening → Type 0
NamesAt m (what.Deliver e) = Names m.tag m.lsid m.number e.msg
NamesAt m other = ⊥

abbrev pub HasSession : Making → Type 0
HasSession m = (s : Session) × (session m.before.core.part m.lsid ≡ Some s) × (s.tag ≡ m.tag)
    × (s.number ≡ m.number)

-- or the shard coordinates its commit
abbrev pub HasPlan : Making → Type 0
HasPlan m = (c : Coordinated) × (coordinated_of m.before.core.coord m.tag ≡ Some c)
    × (c.plan.lsid ≡ m.lsid) × (c.plan.number ≡ m.number)

-- a step of the run, at or before this place, told the cause of the transaction, or ended it so
pub record IsMade (past : Past) (within : ℕ) (shard : ℕ) (tag : Tag) (why : Cause)
    (m : Making) : Type 0 where
  pub faults : ℕ
  pub nodes : Nodes
  pub next : Nodes
  pub at : At past.trace past.run m.place nodes (Step (Shard shard) m.event m.answer faults)
  pub behind : slice_get (past.trace ++ past.now ∷ []) (m.place + 1) ≡ Some next
  pub before : slice_get nodes.shards shard ≡ Some m.before
  pub after : slice_get next.shards shard ≡ Some m.after
  pub there : m.shard ≡ shard
  pub of : m.tag ≡ tag
  pub earlier : m.place ≤ within
  pub session : NamesAt m m.event.what ⊎ (HasSession m ⊎ HasPlan m)
  pub makes : TellsCause m why ⊎ EndsWith m why

-- What stood, cause by cause.

-- that transaction has written the document there
abbrev pub has_version : Id → Tag → Versions → Bool
has_version id tag store =
    list_any (λ key. if same_id key.0.1 id then list_any (is_of tag) key.1 else false) store

-- a commit at that time wrote the document
abbrev pub writes_id : Id → List Write → Bool
writes_id id writes = list_any (λ write. same_id (place_of write).1 id) writes

-- what the transaction has live there; the session's older one doesn't count
abbrev pub if_of : Tag → Option Open → Option Open
if_of tag None = None
if_of tag (Some o) = if same_tag o.tag tag then Some o else None

abbrev pub live_at : Making → Option Open
live_at m = if_of m.tag (open_of (part_at m) m.lsid)

-- the statement that is delivered, and what it reads at
abbrev pub read_time : Making → Statement → ℕ
read_time m s =
    unwrap_or (option_map (λ (o : Open). o.read_at) (live_at m))
    (if nat_eq s.read_at 0 then (core_at m).clock.last else s.read_at)

abbrev pub IsDelivered : Making → Statement → Type 0
IsDelivered m s = (e : Envelope) × (m.event.what ≡ what.Deliver e) × (e.msg ≡ msg.Statement s)

-- the rows of the shard that the statement saw: those of the list of commits, under what its
-- transaction wrote before
abbrev pub answered_before : Past → Tag → ℕ → List Answered
answered_before past tag k =
    filter (λ a. nat_lt a.k k) (of_tag tag (answered_in past.routers past.run))

abbrev pub rows_there : Past → Making → Statement → List Row
rows_there past m s =
    rows_at (here (shard_of past.chunks (ns_of s.op)) m.shard)
    (under (ns_of s.op) (view (commits_of past.now) (read_time m s) (ns_of s.op))
    (own_writes (commits_of past.now) [] (answered_before past m.tag s.k)))

-- boots and floors of a journal, in their order
abbrev pub boot_in : Rec → Option ℕ
boot_in (rec.Boot boot) = Some boot
boot_in other = None

abbrev pub floor_in : Rec → Option ℕ
floor_in (rec.Floor floor) = Some floor
floor_in other = None

-- the shard's disk failed since its start, at or before this place
pub record HasFailed (run : List Ran) (shard : ℕ) (within : ℕ) (faults : ℕ) : Type 0 where
  pub place : ℕ
  pub event : NodeEvent
  pub step : slice_get run place ≡ Some (Step (Shard shard) event DiskFault faults)
  pub earlier : place ≤ within
  pub since : (i : ℕ) → place < i → i ≤ within → slice_get run i ≢ Some (Swapped (Shard shard))

-- Why a router may send an Abort: what it had taken before.
pub record Took (past : Past) (n : ℕ) (within : ℕ)
    (P : Ledger → RouterState → NodeEvent → NodeAnswer → Type 0) : Type 0 where
  pub place : ℕ
  pub event : NodeEvent
  pub answer : NodeAnswer
  pub faults : ℕ
  pub router : RouterState
  pub step : slice_get past.run place ≡ Some (Step (Router n) event answer faults)
  pub there : slice_get (ledger_behind (fresh_ledger past.routers) (take place past.run)).routers n
      ≡ Some router
  pub earlier : place ≤ within
  pub holds : P (ledger_behind (fresh_ledger past.routers) (take place past.run)) router
      event answer

-- a request of the session with a larger number; a command by itself is one of its connection's own
-- session
abbrev pub IsLarger : Lsid → ℤ → RouterState → Asked → Type 0
IsLarger lsid number r asked = elim (txn_of asked.1) [
  | Some txn ↦ (txn.lsid ≡ lsid) × (number <ℤ txn.number)
  | None ↦ elim (asked.1)
      [ request.Statement op txn at after more time ↦ lsid ≡ Own r.number r.boot asked.0 | _ ↦ ⊥ ]
]

abbrev pub Asks : (RouterState → Asked → Type 0) → Ledger → RouterState → NodeEvent
    → NodeAnswer → Type 0
Asks P l r e a = (asked : Asked) × (request_at r e a ≡ Some asked) × P r asked

abbrev pub AbortsIt : Lsid → ℤ → RouterState → Asked → Type 0
AbortsIt lsid number r asked = (txn : Txn) × (more : Bool) × (time : Option ℕ)
    × (asked.1 ≡ request.Abort (Some txn) more time) × (txn.lsid ≡ lsid) × (txn.number ≡ number)

abbrev pub EndsIt : Lsid → RouterState → Asked → Type 0
EndsIt lsid r asked = (ids : List Lsid) × (more : Bool) × (time : Option ℕ)
    × (asked.1 ≡ request.EndSessions ids more time) × Contains ids lsid

abbrev pub SeeksIt : Tag → RouterState → Asked → Type 0
SeeksIt tag r asked = elim (asked.1) [
  | request.Commit txn t more time ↦ (some : _) × (t ≡ Some some) × (tag_in some ≡ Some tag)
  | _ ↦ ⊥
]

abbrev pub LeavesIt : Tag → Ledger → RouterState → NodeEvent → NodeAnswer → Type 0
LeavesIt tag l r e a = (u : Unanswered) × Contains l.unanswered u × (u.tag ≡ tag)
    × (e.what ≡ what.Gone u.conn)

abbrev pub RefusesIt : Tag → Msg → Type 0
RefusesIt tag (msg.Answer a) = (a.tag ≡ tag) × ((why : Cause) × (a.outcome ≡ Err why))
RefusesIt tag (msg.Outcome o) = (o.tag ≡ tag) × (o.told ≢ told.Released)
RefusesIt tag other = ⊥

abbrev pub TakesRefusal : Tag → Ledger → RouterState → NodeEvent → NodeAnswer → Type 0
TakesRefusal tag l r e a = (sent : Envelope) × (e.what ≡ what.Deliver sent) × RefusesIt tag sent.msg

-- for each of the reasons
pub data Reason (past : Past) (m : Making) : ℕ → Type 0 where
  ByClient : Took past m.tag.router m.place (Asks (AbortsIt m.lsid m.number)) → Reason past m 1
  BySession : Took past m.tag.router m.place (Asks (EndsIt m.lsid)) → Reason past m 2
  ByToken : (n : ℕ) → Took past n m.place (Asks (SeeksIt m.tag)) → Reason past m 3
  ByEnd : Took past m.tag.router m.place (LeavesIt m.tag) → Reason past m 4
  ByRefusal : Took past m.tag.router m.place (TakesRefusal m.tag) → Reason past m 5
  ByNumber : Took past m.tag.router m.place (Asks (IsLarger m.lsid m.number)) → Reason past m 6

-- an Abort of this reason was delivered, or for reason 3 a Recover
abbrev pub Aborts : Tag → ℕ → Msg → Type 0
Aborts tag why (msg.Abort m) = (m.tag ≡ tag) × (m.why ≡ why)
Aborts tag why (msg.Recover m) = (m.tag ≡ tag) × (why ≡ 3)
Aborts tag why other = ⊥

-- a vote that decided to abort
pub record HasVoted (past : Past) (tag : Tag) (shard : ℕ) (code : ℕ) : Type 0 where
  pub recs : List Rec
  pub journal : Contains (journals_of past.now) recs
  pub decided : Contains recs (rec.CoordDecision tag (decision.Abort shard code))
  pub sent : Envelope
  pub why : Cause
  pub given : Contains past.now.sent sent
  pub vote : sent.msg ≡ msg.Vote (record { tag = tag; shard = shard; vote = Err why })
  pub number : cause_number why ≡ code

abbrev pub Stood : Past → Making → Cause → Type 0
Stood past m (cause.WriteConflict id (by.Tag other)) = has_version id other (part_at m).store ≡ true
Stood past m (cause.WriteConflict id (by.At at)) =
    (e : Entry) × Contains (commits_of past.now) e × (e.at ≡ at) × (writes_id id e.writes ≡ true)
    × ((s : Statement) → IsDelivered m s → read_time m s < at)
Stood past m (cause.Expired begun now) =
    (o : Open) × (open_of m.before.core.part m.lsid ≡ Some o) × (o.tag ≡ m.tag) × (begun ≡ o.begun)
    × (now ≡ (entered m.before.core m.event).wall) × (begun + 60 < now)
Stood past m (cause.ClientAbort why) =
    ((e : Envelope) × (m.event.what ≡ what.Deliver e) × Aborts m.tag why e.msg) × Reason past m why
Stood past m (cause.Unavailable carried have) =
    (boots : List ℕ) × (filter_map boot_in m.before.records ≡ boots ++ have ∷ [])
    × Contains boots carried
Stood past m (cause.Faulted faults) = HasFailed past.run m.shard m.place faults
Stood past m (cause.Statement err) = (s : Statement) × IsDelivered m s
    × (eval s.op (rows_there past m s) ≡ Err err)
Stood past m (cause.Replaced number other) =
    (s : Session) × ((session m.before.core.part m.lsid ≡ Some s)
    ⊎ (session m.after.core.part m.lsid ≡ Some s)) × (s.number ≡ number) × (s.tag ≡ other)
    × ((m.number <ℤ number) ⊎ ((m.number ≡ number) × (other ≢ m.tag)))
Stood past m (cause.Volume bytes) =
    (s : Statement) × IsDelivered m s
    × (bytes ≡ volume (write_set (unwrap_or (option_map (λ (o : Open). o.writes) (live_at m)) []
    ++ writes_of (eval s.op (rows_there past m s)))))
    × (most_written < bytes)
Stood past m (cause.ClockEnd last) = ((core_at m).clock.last ≡ last) × (last ≡ 2 ^ 64 - 1)
Stood past m (cause.PreparedStands other) =
    (s : Session) × (session (part_at m) m.lsid ≡ Some s) × (s.tag ≡ other)
    × ((at : ℕ) × (coordinator : ℕ) × (s.state ≡ state.Prepared at coordinator))
Stood past m cause.TooManySessions = (is_full (part_at m).sessions ≡ true)
    × (session (part_at m) m.lsid ≡ None)
Stood past m (cause.Voted shard code) = HasVoted past m.tag shard code
Stood past m cause.Memory = Unit {0}
Stood past m (cause.SnapshotTooOld at floor) = (floors : List ℕ)
    × (filter_map floor_in m.before.records ≡ floors ++ floor ∷ []) × (at < floor)

-- each cause that was told has its making
pub record HasCause (past : Past) (place : ℕ) (tag : Tag) (shard : ℕ) (why : Cause) : Type 0 where
  pub making : Making
  pub made : IsMade past place shard tag why making
  pub stood : Stood past making why

abbrev pub CauseOf : Past → ℕ → Tag → Meant → Type 0
CauseOf past place tag Done = Unit {0}
CauseOf past place tag Undone = Unit {0}
CauseOf past place tag (Caused shard why) = HasCause past place tag shard why

abbrev pub AllCaused : Past → List Telling → Type 0
AllCaused past told = All (λ t. CauseOf past t.place t.tag t.meant) told
