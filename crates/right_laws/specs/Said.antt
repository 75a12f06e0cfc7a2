-- How a reply of a run came to be given: by what a session did, in which the connection waited for
-- it; or at once, by what the request itself asked. And of which transaction it was.
use Rattle.std.specs.Prelude.{◌≡◌, ◌⊎◌, ℕ, ℤ, true, false, List, Contains, Option, Some, None}
use Rattle.std.specs.Prelude.{option_map, option_and_then, slice_get, Ok}
use Rattle.txn_types.specs.declared.event.Happening.TheVariants as what
use Rattle.txn_types.specs.declared.event.NodeEvent.{NodeEvent}
use Rattle.txn_types.specs.declared.names.Tag.{Tag}
use Rattle.txn_types.specs.declared.node.Lsid.{Lsid}
use Rattle.txn_types.specs.declared.node.NodeId.TheVariants.{Router}
use Rattle.op_msg.specs.Asking.{is_legacy}
use Rattle.client_cmd.specs.declared.request.Request.{Request}
use Rattle.client_cmd.specs.declared.request.Txn.{Txn}
use Rattle.router_state.specs.State.{RouterState, session_of, asker_of, is_from, is_own, is_waiting}
use Rattle.router_state.specs.declared.deed.Sent.{Sent}
use Rattle.router_state.specs.declared.state.Doing.{Doing}
use Rattle.router_state.specs.declared.state.Doing.TheVariants.{Begun, Sought}
use Rattle.router_state.specs.declared.state.Phase.{Phase}
use Rattle.router_state.specs.declared.state.Phase.TheVariants.{Asking}
use Rattle.router_state.specs.declared.state.Session.{Session}
use Rattle.router_state.specs.declared.state.Transaction.{Transaction}
use Rattle.router_rules.specs.Times.{walled}
use Rattle.router_plan.specs.Messages.{asked_in}
use Rattle.router_plan.specs.Refusals.{begun_in, too_old}
use Rattle.router_core.specs.News.{acts}
use Rattle.router_core.specs.Requests.{serves}
use Rattle.router_core.specs.Step.{answer_of, asker_by, router_step}
use Rattle.txn_model.specs.declared.ran.Ran.{Ran}
use Rattle.txn_model.specs.declared.ran.Ran.TheVariants.{Step}
use Rattle.cluster_core.specs.Nodes.{Nodes}
use Rattle.cluster_core.specs.Replying.{Hand, Replied, txn_of, token_of, tag_in}
use Rattle.cluster_core.specs.Telling.{is_attempt, is_abort}
use Rattle.cluster_core.specs.Trace.{At}

-- the transaction that is a session's, or that is looked for there
abbrev pub tag_of : Doing → Option Tag
tag_of (Begun t) = Some t.tag
tag_of (Sought seeking known) = option_map (λ k. k.tag) seeking

-- The request that waits in a session: one of a statement, where its answers are waited for, and
-- one that tries to commit, where an outcome is.

abbrev pub SuitsPhase : Request → Lsid → Phase → Type 0
SuitsPhase q lsid (Asking asker op answers) = (is_attempt q ≡ is_own lsid) × (is_abort q ≡ false)
SuitsPhase q lsid other = is_attempt q ≡ true

abbrev pub Suits : Request → Lsid → Doing → Type 0
Suits q lsid (Begun t) = SuitsPhase q lsid t.phase
Suits q lsid (Sought seeking known) = is_attempt q ≡ true

-- the session is that of the transaction that the request names
abbrev pub NamesIt : Request → Lsid → ℤ → Type 0
NamesIt q lsid number = (txn : Txn) → txn_of q ≡ Some txn
    → (txn.lsid ≡ lsid) × (txn.number ≡ number)

-- a message, or the end of a connection, did it in a session in which the connection waited
pub record Heard (r : RouterState) (e : NodeEvent) (y : Replied) : Type 0 where
  pub lsid : Lsid
  pub session : Session
  pub in_it : session_of r lsid ≡ Some session
  pub waits : is_from y.hand.conn (asker_of session.doing) ≡ true
  pub sent : Sent
  pub among : Contains (acts e.what lsid session).given.replies sent
  pub reply : sent.reply ≡ y.reply
  pub tag : y.hand.tag ≡ tag_of session.doing
  pub suits : Suits y.hand.request lsid session.doing
  pub names : NamesIt y.hand.request lsid session.number

-- the request was answered at once
pub record Served (r : RouterState) (e : NodeEvent) (y : Replied) : Type 0 where
  pub bytes : List ℕ
  pub what_is : e.what ≡ what.Client y.hand.conn bytes
  pub free : is_waiting r y.hand.conn ≡ false
  pub asked : asked_in (walled r e.wall).wall bytes ≡ Ok y.hand.request
  pub sent : Sent
  pub among : Contains (serves (walled r e.wall) (asker_by y.hand.conn bytes) (is_legacy bytes)
      y.hand.request).given.replies sent
  pub reply : sent.reply ≡ y.reply
  pub none : txn_of y.hand.request ≡ None → y.hand.tag ≡ None
  pub own : (txn : Txn) (t : Transaction) → txn_of y.hand.request ≡ Some txn
      → begun_in (session_of r txn.lsid) txn.number ≡ Some t → y.hand.tag ≡ Some t.tag
  pub other : (txn : Txn) → txn_of y.hand.request ≡ Some txn
      → begun_in (session_of r txn.lsid) txn.number ≡ None
      → too_old (session_of r txn.lsid) txn.number ≡ None
      → y.hand.tag ≡ option_and_then tag_in (token_of y.hand.request)

-- A request that is in hand after a run waits in a session of its router.

pub record Waits (r : RouterState) (h : Hand) : Type 0 where
  pub lsid : Lsid
  pub session : Session
  pub in_it : session_of r lsid ≡ Some session
  pub waits : is_from h.conn (asker_of session.doing) ≡ true
  pub tag : h.tag ≡ tag_of session.doing
  pub suits : Suits h.request lsid session.doing
  pub names : NamesIt h.request lsid session.number

abbrev pub IsWaiting : Nodes → Hand → Type 0
IsWaiting nodes h = (r : RouterState) → slice_get nodes.routers h.router ≡ Some r → Waits r h

-- the step of the run at which a reply was given, the router before it, and how it was given
pub record Came (trace : List Nodes) (run : List Ran) (y : Replied) : Type 0 where
  pub nodes : Nodes
  pub event : NodeEvent
  pub faults : ℕ
  pub r : RouterState
  pub there : slice_get nodes.routers y.hand.router ≡ Some r
  pub at : At trace run y.place nodes
      (Step (Router y.hand.router) event (answer_of false (router_step false r event)) faults)
  pub way : Heard r event y ⊎ Served r event y
