-- The step of a router: what an event changes, and what is then given out.
use Rattle.std.specs.Prelude.{◌≡◌, ℕ, Bool, true, false, List, [], ◌++◌, map, Option, Some, None}
use Rattle.std.specs.Prelude.{Result, Ok, Err, if◌then◌else◌}
use Rattle.txn_types.specs.Letters.{all_sent_by}
use Rattle.txn_types.specs.declared.event.Happening.{Happening}
use Rattle.txn_types.specs.declared.event.Happening.TheVariants as what
use Rattle.txn_types.specs.declared.event.NodeAnswer.{NodeAnswer}
use Rattle.txn_types.specs.declared.event.NodeAnswer.TheVariants as answer
use Rattle.txn_types.specs.declared.event.NodeEvent.{NodeEvent}
use Rattle.txn_types.specs.declared.message.Envelope.{Envelope}
use Rattle.txn_types.specs.declared.message.Msg.{Msg}
use Rattle.txn_types.specs.declared.message.Msg.TheVariants as msg
use Rattle.txn_types.specs.declared.node.NodeId.TheVariants.{Router}
use Rattle.client_cmd.specs.declared.request.Request.{Request}
use Rattle.client_reply.specs.declared.reply.Reply.TheVariants.{Refused}
use Rattle.router_plan.specs.declared.message.Unserved.{Unserved}
use Rattle.router_plan.specs.declared.message.Unserved.TheVariants.{Told, Closed, Memory}
use Rattle.router_state.specs.declared.state.Asker.{Asker}
use Rattle.router_state.specs.State.{RouterState, is_waiting}
use Rattle.router_state.specs.declared.deed.Sent.{Sent}
use Rattle.router_state.specs.Deeds.{sending, Move, still, in_each_session}
use Rattle.router_rules.specs.Times.{walled, timed}
use Rattle.router_rules.specs.Ends.{gone}
use Rattle.op_msg.specs.Asking.{request_id, is_legacy, wants_reply}
use Rattle.router_plan.specs.Messages.{asked_in}
use Rattle.router_plan.specs.Plans.{told_also}
use Rattle.router_plan.specs.Spelling.{letter_of, spelled}
use Rattle.router_core.specs.Requests.{serves}
use Rattle.router_rules.specs.Resends.{resent}
use Rattle.router_rules.specs.Serving.{answered_in, ended_in}

-- the state after a step, the messages and replies that it gives out, and the number of the
-- refusal that closes the event's connection
pub record RouterTurn : Type 0 where
  pub state : RouterState
  pub out : List Envelope
  pub replies : List Sent
  pub closed : Option ℕ

-- Messages of shards.

-- each session that waits for it takes it; no other message is a matter of a router
abbrev pub delivered : RouterState → Msg → Move
delivered s (msg.Answer a) = in_each_session (answered_in a) s
delivered s (msg.Outcome o) = in_each_session (ended_in o) s
delivered s other = still s

-- Messages of clients.

abbrev pub asker_by : ℕ → List ℕ → Asker
asker_by conn bytes = record { conn = conn; request = request_id bytes }

-- where the sender wants no reply, it gets none
abbrev pub unless_silent : Bool → Move → Move
unless_silent true move = move
unless_silent false move = record {
  state = move.state;
  given = record { aborts = move.given.aborts; sends = move.given.sends; replies = [] };
}

abbrev pub served : RouterState → ℕ → List ℕ → Result Request Unserved → Move
served s conn bytes (Ok asked) = serves s (asker_by conn bytes) (is_legacy bytes) asked
served s conn bytes (Err (Told why)) =
    told_also (still s) (asker_by conn bytes) (is_legacy bytes) (Refused why)
served s conn bytes (Err (Closed number)) = still s
served s conn bytes (Err Memory) = still s

-- A connection's requests are served one at a time: while one is unanswered, no other is taken.
abbrev pub client : RouterState → ℕ → List ℕ → Move
client s conn bytes =
    if is_waiting s conn then still s
    else unless_silent (wants_reply bytes) (served s conn bytes (asked_in s.wall bytes))

abbrev pub closed_by : Result Request Unserved → Option ℕ
closed_by (Err (Closed number)) = Some number
closed_by other = None

abbrev pub closed_at : RouterState → Happening → Option ℕ
closed_at s (what.Client conn bytes) = if is_waiting s conn then None
    else closed_by (asked_in s.wall bytes)
closed_at s other = None

-- The step.

abbrev pub happened : RouterState → Happening → Move
happened s (what.Client conn bytes) = client s conn bytes
happened s (what.Gone conn) = gone s conn
happened s (what.Deliver e) = delivered (timed s e.time) e.msg
happened s what.Resend = record { state = s; given = sending (resent s) }
happened s what.Moment = still s

-- aborts go out first; all carry the router's time as it stands then
abbrev pub given_out : Option ℕ → Move → RouterTurn
given_out closed move =
    record {
      state = move.state;
      out = all_sent_by (Router move.state.number) move.state.time (map letter_of
          (move.given.aborts ++ move.given.sends));
      replies = move.given.replies;
      closed = closed;
    }

-- without memory nothing has changed
unfoldable pub router_step : Bool → RouterState → NodeEvent → RouterTurn
router_step true s e = record { state = s; out = []; replies = []; closed = None }
router_step false s e =
    given_out (closed_at (walled s e.wall) e.what) (happened (walled s e.wall) e.what)

abbrev pub answer_of : Bool → RouterTurn → NodeAnswer
answer_of true turn = answer.Memory
answer_of false turn = answer.Did turn.out (map (spelled turn.state.time) turn.replies) turn.closed

-- what a router's step may be
abbrev pub RouterTakes : RouterState → NodeEvent → NodeAnswer → RouterState → Type 0
RouterTakes old e a new =
    (want : Bool) × (a ≡ answer_of want (router_step want old e))
    × (new ≡ (router_step want old e).state)
