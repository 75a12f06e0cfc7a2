-- Which transaction a router's step begins, and what stands of those that it began in this boot, so
-- that a tag stands for one begin.
use Rattle.std.specs.Prelude.{◌≡◌, ◌≤◌, ◌⊎◌, ◌<ℤ◌, ◌+◌, ℕ, ℤ, Bool, true, false, List, All}
use Rattle.std.specs.Prelude.{Contains, Option, Some, None, IfSome, Result, Ok, slice_get}
use Rattle.std.specs.Prelude.{if◌then◌else◌}
use Rattle.txn_types.specs.declared.event.Happening.{Happening}
use Rattle.txn_types.specs.declared.event.Happening.TheVariants as what
use Rattle.txn_types.specs.declared.event.NodeEvent.{NodeEvent}
use Rattle.txn_types.specs.declared.names.Tag.{Tag}
use Rattle.txn_types.specs.declared.node.Lsid.{Lsid}
use Rattle.txn_types.specs.declared.operation.Op.{Op}
use Rattle.client_cmd.specs.declared.request.Request.{Request}
use Rattle.client_cmd.specs.declared.request.Request.TheVariants as request
use Rattle.client_cmd.specs.declared.request.Txn.{Txn}
use Rattle.client_reply.specs.declared.reply.Reply.{Reply}
use Rattle.router_state.specs.declared.deed.Deed.{Deed}
use Rattle.router_state.specs.declared.deed.Given.{Given}
use Rattle.router_state.specs.declared.state.Doing.{Doing}
use Rattle.router_state.specs.declared.state.Doing.TheVariants.{Begun, Sought}
use Rattle.router_state.specs.declared.state.Session.{Session}
use Rattle.router_state.specs.declared.state.Transaction.{Transaction}
use Rattle.router_state.specs.Deeds.{Move}
use Rattle.router_state.specs.State.{Post, RouterState, session_of, is_waiting}
use Rattle.router_rules.specs.Times.{walled, met}
use Rattle.router_plan.specs.declared.message.Unserved.{Unserved}
use Rattle.router_plan.specs.Messages.{asked_in}
use Rattle.router_plan.specs.Refusals.{begun_in, statement_refusal}
use Rattle.router_core.specs.Requests.{next_tag, by_itself}
use Rattle.txn_types.specs.Letters.{Named, named_in}
use Rattle.cluster_core.specs.Nodes.{Nodes}
use Rattle.cluster_core.specs.Parts.{names_of}

-- Which transaction a step begins: that of a statement which isn't refused, in a session that
-- hasn't begun its number.

abbrev pub begins_unless : RouterState → Txn → Option Reply → Option Transaction → Option Named
begins_unless s txn (Some refusal) own = None
begins_unless s txn None (Some own) = None
begins_unless s txn None None =
    Some (record { tag = next_tag s; lsid = txn.lsid; number = txn.number })

abbrev pub begins_of : RouterState → ℕ → Txn → Op → Option Named
begins_of s conn txn op = begins_unless s txn (statement_refusal s conn (session_of s txn.lsid) txn
    op) (begun_in (session_of s txn.lsid) txn.number)

abbrev pub begins_by : RouterState → ℕ → Option Txn → Op → Option Named
begins_by s conn None op = begins_of s conn (by_itself s conn) op
begins_by s conn (Some txn) op = begins_of s conn txn op

abbrev pub begins_asked : RouterState → ℕ → Result Request Unserved → Option Named
begins_asked s conn (Ok (request.Statement op txn at after more time)) =
    begins_by (met s time after) conn txn op
begins_asked s conn other = None

abbrev pub begins_at : RouterState → Happening → Option Named
begins_at s (what.Client conn bytes) = if is_waiting s conn then None
    else begins_asked s conn (asked_in s.wall bytes)
begins_at s other = None

-- without memory none
abbrev pub begins : Bool → RouterState → NodeEvent → Option Named
begins true s e = None
begins false s e = begins_at (walled s e.wall) e.what

-- What a router names: in each session its transaction, and in what waits for an answer.

abbrev pub PostNames : (Named → Type 0) → Post → Type 0
PostNames P post = IfSome (named_in post.1) P

abbrev pub AllNames : (Named → Type 0) → List Post → Type 0
AllNames P posts = All (PostNames P) posts

abbrev pub DoingNames : (Named → Type 0) → Lsid → ℤ → Doing → Type 0
DoingNames P lsid number (Begun t) = P (record { tag = t.tag; lsid = lsid; number = number })
    × AllNames P t.waiting
DoingNames P lsid number (Sought seeking known) = Unit {0}

abbrev pub EntryNames : (Named → Type 0) → Lsid × Session → Type 0
EntryNames P entry = DoingNames P entry.0 entry.1.number entry.1.doing

abbrev pub RouterNames : (Named → Type 0) → RouterState → Type 0
RouterNames P s = All (EntryNames P) s.sessions

pub record GivenNames (P : Named → Type 0) (g : Given) : Type 0 where
  pub aborts : AllNames P g.aborts
  pub sends : AllNames P g.sends

-- a session goes on: its number stays, with the transaction that was begun, or it rises
abbrev pub SameDoing : Doing → Doing → Type 0
SameDoing (Begun t) (Begun u) = u.tag ≡ t.tag
SameDoing (Begun t) (Sought seeking known) = ⊥
SameDoing (Sought seeking known) other = Unit {0}

abbrev pub GoesOn : Session → Session → Type 0
GoesOn a b = (a.number <ℤ b.number) ⊎ ((b.number ≡ a.number) × SameDoing a.doing b.doing)

-- what is done in a session
pub record DeedNames (P : Named → Type 0) (lsid : Lsid) (old : Session) (d : Deed) : Type 0 where
  pub doing : DoingNames P lsid d.session.number d.session.doing
  pub given : GivenNames P d.given
  pub goes : GoesOn old d.session

-- each session goes on
abbrev pub AllGo : RouterState → RouterState → Type 0
AllGo s t = (lsid : Lsid) (old : Session) → session_of s lsid ≡ Some old
    → (new : Session) × (session_of t lsid ≡ Some new) × GoesOn old new

-- what is done at the router
pub record MoveNames (P : Named → Type 0) (s : RouterState) (m : Move) : Type 0 where
  pub state : RouterNames P m.state
  pub given : GivenNames P m.given
  pub goes : AllGo s m.state

-- What stands of the transactions that a router began in this boot, all of them in a list: their
-- sessions have them still, or have gone on to larger numbers.

abbrev pub IsIn : Tag → Doing → Type 0
IsIn tag (Begun t) = t.tag ≡ tag
IsIn tag (Sought seeking known) = ⊥

abbrev pub HasCome : RouterState → Named → Type 0
HasCome s x = (session : Session) × (session_of s x.lsid ≡ Some session)
    × ((x.number <ℤ session.number) ⊎ ((session.number ≡ x.number) × IsIn x.tag session.doing))

-- its tag was drawn here
pub record IsDrawn (s : RouterState) (x : Named) : Type 0 where
  pub router : x.tag.router ≡ s.number
  pub boot : x.tag.boot ≡ s.boot
  pub serial : x.tag.serial ≤ s.serial

pub record BegunOnce (sent : List Named) (number : ℕ) (s : RouterState) : Type 0 where
  pub own : s.number ≡ number
  pub begun : List Named
  pub sessions : RouterNames (Contains begun) s
  pub named : (x : Named) → Contains sent x → x.tag.router ≡ number → x.tag.boot ≡ s.boot
      → Contains begun x
  pub drawn : (x : Named) → Contains begun x → IsDrawn s x
  pub come : (x : Named) → Contains begun x → HasCome s x
  pub once : (x y : Named) → Contains begun x → Contains begun y → x.tag ≡ y.tag
      → (x.lsid ≡ y.lsid) × (x.number ≡ y.number)
  pub one_tag : (x y : Named) → Contains begun x → Contains begun y → x.lsid ≡ y.lsid
      → x.number ≡ y.number → x.tag ≡ y.tag

abbrev pub AllBegunOnce : Nodes → Type 0
AllBegunOnce nodes = (number : ℕ) (s : RouterState) → slice_get nodes.routers number ≡ Some s
    → BegunOnce (names_of nodes) number s

-- What a step leaves of what tells tags apart: nothing is drawn, or the next serial is, for a
-- transaction that is above its session's number.

pub record Kept (s t : RouterState) : Type 0 where
  pub number : t.number ≡ s.number
  pub boot : t.boot ≡ s.boot
  pub serial : t.serial ≡ s.serial

pub record Drew (s : RouterState) (x : Named) (t : RouterState) : Type 0 where
  pub number : t.number ≡ s.number
  pub boot : t.boot ≡ s.boot
  pub serial : t.serial ≡ s.serial + 1
  pub tag : x.tag ≡ next_tag s
  pub fresh : (old : Session) → session_of s x.lsid ≡ Some old → old.number <ℤ x.number
  pub come : HasCome t x

abbrev pub Leaves : RouterState → RouterState → Option Named → Type 0
Leaves s t None = Kept s t
Leaves s t (Some x) = Drew s x t
