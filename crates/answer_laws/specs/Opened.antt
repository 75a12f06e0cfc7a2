-- The statements that a run's routers took from clients and sent to shards.
use Rattle.std.specs.Prelude.{◌++◌, ℕ, List, [], ◌∷◌, Option, Some, None, slice_get}
use Rattle.txn_types.specs.declared.event.NodeAnswer.{NodeAnswer}
use Rattle.txn_types.specs.declared.event.NodeEvent.{NodeEvent}
use Rattle.txn_types.specs.declared.node.NodeId.TheVariants.{Router}
use Rattle.router_state.specs.State.{RouterState}
use Rattle.txn_model.specs.declared.ran.Ran.{Ran}
use Rattle.txn_model.specs.declared.ran.Ran.TheVariants.{Step}
use Rattle.cluster_core.specs.Answering.{Unanswered, opened}
use Rattle.cluster_core.specs.Ledger.{Ledger, fresh_ledger, entered_by}
use Rattle.cluster_core.specs.Routers.{request_at}

abbrev pub opened_at : ℕ → Option RouterState → NodeEvent → NodeAnswer → List Unanswered
opened_at n None e a = []
opened_at n (Some r) e a = opened n (request_at r e a) a

-- the statement that a step opens, unanswered as yet
abbrev pub opened_by : Ledger → Ran → List Unanswered
opened_by l (Step (Router n) e a faults) = opened_at n (slice_get l.routers n) e a
opened_by l other = []

abbrev pub opened_from : Ledger → List Ran → List Unanswered
opened_from l [] = []
opened_from l (ran ∷ run) = opened_by l ran ++ opened_from (entered_by l ran).ledger run

-- of a run that begins with these routers
abbrev pub opened_in : List RouterState → List Ran → List Unanswered
opened_in routers run = opened_from (fresh_ledger routers) run
