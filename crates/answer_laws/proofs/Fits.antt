-- What is said of the statements that a router sends and waits for, and how its sessions go on:
-- numbers rise, a transaction that was begun stays until its session's number rises, and the place
-- of its newest statement never falls.
use Rattle.std.specs.Prelude.{◌≡◌, ◌≤◌, ◌⊎◌, ◌<ℤ◌, ◌+◌, ℕ, ℤ, Bool, true, false, List, All, Some}
use Rattle.std.specs.Prelude.{Result, Ok, Err}
use Rattle.txn_types.specs.declared.message.Statement.{Statement}
use Rattle.txn_types.specs.declared.names.Tag.{Tag}
use Rattle.txn_types.specs.declared.node.Lsid.{Lsid}
use Rattle.router_state.specs.declared.deed.Deed.{Deed}
use Rattle.router_state.specs.declared.deed.Given.{Given}
use Rattle.router_state.specs.declared.state.Doing.{Doing}
use Rattle.router_state.specs.declared.state.Doing.TheVariants.{Begun, Sought}
use Rattle.router_state.specs.declared.state.Session.{Session}
use Rattle.router_state.specs.Deeds.{Move}
use Rattle.router_state.specs.State.{Post, RouterState, session_of, is_waiting}
use Rattle.txn_types.specs.declared.event.Happening.{Happening}
use Rattle.txn_types.specs.declared.event.Happening.TheVariants as what
use Rattle.txn_types.specs.declared.event.NodeEvent.{NodeEvent}
use Rattle.txn_types.specs.declared.operation.Op.{Op}
use Rattle.client_cmd.specs.declared.request.Request.{Request}
use Rattle.client_cmd.specs.declared.request.Request.TheVariants as request
use Rattle.router_state.specs.declared.state.Asker.{Asker}
use Rattle.router_state.specs.declared.state.Transaction.{Transaction}
use Rattle.router_rules.specs.Statements.{statements_to}
use Rattle.router_rules.specs.Times.{walled, met}
use Rattle.router_plan.specs.declared.message.Unserved.{Unserved}
use Rattle.router_plan.specs.Messages.{asked_in}
use Rattle.router_plan.specs.Refusals.{begun_in}
use Rattle.router_core.specs.Requests.{next_tag, statement}
use Rattle.router_core.specs.Step.{asker_by}
use Rattle.answer_laws.specs.Parts.{MsgFits}
use Rattle.txn_types.specs.Letters.{Named}

abbrev pub PostFits : (ℕ → Statement → Type 0) → Post → Type 0
PostFits Q post = MsgFits Q post.0 post.1

abbrev pub AllFit : (ℕ → Statement → Type 0) → List Post → Type 0
AllFit Q posts = All (PostFits Q) posts

abbrev pub DoingFits : (ℕ → Statement → Type 0) → Doing → Type 0
DoingFits Q (Begun t) = AllFit Q t.waiting
DoingFits Q (Sought seeking known) = Unit {0}

abbrev pub EntryFits : (ℕ → Statement → Type 0) → Lsid × Session → Type 0
EntryFits Q entry = DoingFits Q entry.1.doing

abbrev pub RouterFits : (ℕ → Statement → Type 0) → RouterState → Type 0
RouterFits Q s = All (EntryFits Q) s.sessions

pub record GivenFit (Q : ℕ → Statement → Type 0) (g : Given) : Type 0 where
  pub aborts : AllFit Q g.aborts
  pub sends : AllFit Q g.sends

-- a session goes on
abbrev pub SameDoing : Doing → Doing → Type 0
SameDoing (Begun t) (Begun u) = (u.tag ≡ t.tag) × (t.k ≤ u.k)
SameDoing (Begun t) (Sought seeking known) = ⊥
SameDoing (Sought seeking known) other = Unit {0}

abbrev pub GoesOn : Session → Session → Type 0
GoesOn a b = (a.number <ℤ b.number) ⊎ ((b.number ≡ a.number) × SameDoing a.doing b.doing)

pub record DeedFits (Q : ℕ → Statement → Type 0) (lsid : Lsid) (old : Session)
    (d : Deed) : Type 0 where
  pub doing : DoingFits Q d.session.doing
  pub given : GivenFit Q d.given
  pub goes : GoesOn old d.session

abbrev pub AllGo : RouterState → RouterState → Type 0
AllGo s t = (lsid : Lsid) (old : Session) → session_of s lsid ≡ Some old
    → (new : Session) × (session_of t lsid ≡ Some new) × GoesOn old new

pub record MoveFits (Q : ℕ → Statement → Type 0) (s : RouterState) (m : Move) : Type 0 where
  pub chunks : m.state.chunks ≡ s.chunks
  pub state : RouterFits Q m.state
  pub given : GivenFit Q m.given
  pub goes : AllGo s m.state

-- the session has the statement's transaction, at its place or past it, or has gone on
abbrev pub IsIn : Tag → ℕ → Doing → Type 0
IsIn tag k (Begun t) = (t.tag ≡ tag) × (k ≤ t.k)
IsIn tag k (Sought seeking known) = ⊥

abbrev pub HasCome : RouterState → Named → ℕ → Type 0
HasCome s x k = (session : Session) × (session_of s x.lsid ≡ Some session)
    × ((x.number <ℤ session.number) ⊎ ((session.number ≡ x.number) × IsIn x.tag k session.doing))

-- What a request asks of shards, where it is a statement.

abbrev pub AskFits : (ℕ → Statement → Type 0) → RouterState → Asker → Request → Type 0
AskFits Q s asker (request.Statement op txn at after more time) =
    AllFit Q (statement (met s time after) asker txn op at).given.sends
AskFits Q s asker other = Unit {0}

abbrev pub AskedFits : (ℕ → Statement → Type 0) → RouterState → ℕ → List ℕ
    → Result Request Unserved → Type 0
AskedFits Q s conn bytes (Ok asked) = AskFits Q s (asker_by conn bytes) asked
AskedFits Q s conn bytes (Err why) = Unit {0}

abbrev pub Unless : Bool → Type 0 → Type 0
Unless true T = Unit {0}
Unless false T = T

abbrev pub HappenedFits : (ℕ → Statement → Type 0) → RouterState → Happening → Type 0
HappenedFits Q s (what.Client conn bytes) =
    Unless (is_waiting s conn) (AskedFits Q s conn bytes (asked_in s.wall bytes))
HappenedFits Q s other = Unit {0}

abbrev pub EventFits : (ℕ → Statement → Type 0) → Bool → RouterState → NodeEvent → Type 0
EventFits Q want s e = Unless want (HappenedFits Q (walled s e.wall) e.what)

abbrev pub NoStatement : ℕ → Statement → Type 0
NoStatement shard m = ⊥

-- What a statement that was taken asks of its shards: it is the next of its session's transaction,
-- or of one that it begins.
pub record Asks (r : RouterState) (op : Op) (m : Move) : Type 0 where
  pub lsid : Lsid
  pub number : ℤ
  pub t : Transaction
  pub sends : m.given.sends ≡ statements_to r.chunks lsid number t op
  pub aborts : AllFit NoStatement m.given.aborts
  pub of : (begun_in (session_of r lsid) number ≡ Some t) ⊎ ((t.tag ≡ next_tag r) × (t.k ≡ 0))
  pub come : HasCome m.state (record { tag = t.tag; lsid = lsid; number = number }) (t.k + 1)
