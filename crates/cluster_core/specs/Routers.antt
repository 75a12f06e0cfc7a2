-- The routers of a run: a router's state is a function of the events that it took, and of the boots
-- at which it started.
use Rattle.std.specs.Prelude.{ℕ, Bool, true, false, Option, Some, None, max, Result, Ok, Err}
use Rattle.std.specs.Prelude.{if◌then◌else◌}
use Rattle.txn_types.specs.declared.event.Happening.{Happening}
use Rattle.txn_types.specs.declared.event.Happening.TheVariants as what
use Rattle.txn_types.specs.declared.event.NodeAnswer.{NodeAnswer}
use Rattle.txn_types.specs.declared.event.NodeAnswer.TheVariants as answer
use Rattle.txn_types.specs.declared.event.NodeEvent.{NodeEvent}
use Rattle.client_cmd.specs.declared.request.Request.{Request}
use Rattle.router_plan.specs.declared.message.Unserved.{Unserved}
use Rattle.router_plan.specs.Messages.{asked_in}
use Rattle.router_state.specs.State.{RouterState, is_waiting}
use Rattle.router_core.specs.Step.{RouterTurn, router_step}

abbrev pub is_memory : NodeAnswer → Bool
is_memory answer.Memory = true
is_memory other = false

-- what a router's step means
abbrev pub turn_of : RouterState → NodeEvent → NodeAnswer → RouterTurn
turn_of r e a = router_step (is_memory a) r e

-- A request that a router took: its connection, and what it asks. A message that isn't read as one,
-- one on a connection whose request is unanswered, and one for which there was no memory, are none.
abbrev pub Asked : Type 0
Asked = ℕ × Request

abbrev pub asked_by : ℕ → Result Request Unserved → Option Asked
asked_by conn (Ok request) = Some (conn, request)
asked_by conn (Err why) = None

abbrev pub asked_at : RouterState → ℕ → Happening → Option Asked
asked_at r wall (what.Client conn bytes) = if is_waiting r conn then None
    else asked_by conn (asked_in wall bytes)
asked_at r wall other = None

abbrev pub request_at : RouterState → NodeEvent → NodeAnswer → Option Asked
request_at r e a = if is_memory a then None else asked_at r (max r.wall e.wall) e.what
