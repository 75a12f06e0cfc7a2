-- The statements of a run whose Answers have all come, each a reply or the statement's own refusal,
-- with these Answers. What a run answers is answered of them.
use Rattle.std.specs.Prelude.{◌≡◌, ◌&&◌, ◌++◌, ℕ, List, [], ◌∷◌, All, filter, length, Option, Some}
use Rattle.std.specs.Prelude.{None, is_some, slice_get, true, if◌then◌else◌}
use Rattle.txn_types.specs.declared.event.NodeAnswer.{NodeAnswer}
use Rattle.txn_types.specs.declared.event.NodeEvent.{NodeEvent}
use Rattle.txn_types.specs.declared.message.Envelope.{Envelope}
use Rattle.txn_types.specs.declared.node.NodeId.TheVariants.{Router}
use Rattle.router_state.specs.State.{RouterState}
use Rattle.txn_model.specs.declared.ran.Ran.{Ran}
use Rattle.txn_model.specs.declared.ran.Ran.TheVariants.{Step}
use Rattle.cluster_core.specs.Answering.{Unanswered, is_complete, all_say, unanswered_behind}
use Rattle.cluster_core.specs.Answering.{meaning_in}
use Rattle.cluster_core.specs.Ledger.{Ledger, fresh_ledger, entered_by}
use Rattle.cluster_core.specs.Routers.{is_memory}
use Rattle.answer_laws.specs.Comes.{Comes}

abbrev pub completed_among : List Unanswered → List Unanswered
completed_among us = filter (λ u. is_complete u && all_say u) us

-- those that a step completes
abbrev pub completed_at : Ledger → ℕ → Option RouterState → NodeEvent → NodeAnswer
    → List Unanswered
completed_at l n None e a = []
completed_at l n (Some r) e a =
    if is_memory a then [] else completed_among (unanswered_behind n r e a l.unanswered)

abbrev pub completed_by : Ledger → Ran → List Unanswered
completed_by l (Step (Router n) e a faults) = completed_at l n (slice_get l.routers n) e a
completed_by l other = []

abbrev pub completed_from : Ledger → List Ran → List Unanswered
completed_from l [] = []
completed_from l (ran ∷ run) = completed_by l ran ++ completed_from (entered_by l ran).ledger run

-- of a run that begins with these routers
abbrev pub completed_in : List RouterState → List Ran → List Unanswered
completed_in routers run = completed_from (fresh_ledger routers) run

-- It was opened by a request, and its Answers were sent, each a reply or its own refusal.
pub record IsCompleted (sent : List Envelope) (begun : List Unanswered)
    (u : Unanswered) : Type 0 where
  pub comes : Comes sent begun u
  pub complete : length u.answers ≡ length u.shards
  pub says : All (λ answer. is_some (meaning_in answer) ≡ true) u.answers
