-- What a run of a cluster has come to at its routers: a function of its events and of the routers'
-- messages.
use Rattle.std.specs.Prelude.{ℕ, ◌+◌, ◌++◌, not, List, [], ◌∷◌, map, filter, nat_eq, Option, Some}
use Rattle.std.specs.Prelude.{None, slice_get, slice_set, if◌then◌else◌}
use Rattle.txn_types.specs.declared.event.NodeAnswer.{NodeAnswer}
use Rattle.txn_types.specs.declared.event.NodeEvent.{NodeEvent}
use Rattle.txn_types.specs.declared.message.Statement.{Statement}
use Rattle.txn_types.specs.declared.node.NodeId.TheVariants.{Shard, Router}
use Rattle.txn_semantics.specs.declared.commits.Answered.{Answered}
use Rattle.router_state.specs.State.{RouterState}
use Rattle.txn_model.specs.declared.ran.Ran.{Ran}
use Rattle.txn_model.specs.declared.ran.Ran.TheVariants.{Step, Swapped}
use Rattle.cluster_core.specs.Trace.{again}
use Rattle.cluster_core.specs.Routers.{is_memory, turn_of}
use Rattle.cluster_core.specs.Answering.{Unanswered, statements_in, unanswered_behind}
use Rattle.cluster_core.specs.Answering.{left_unanswered, answered_among}
use Rattle.cluster_core.specs.Replying.{Hand, Replied, held_in, replied_in, left_in_hand}

-- its routers, how many steps there were, each statement's part that was sent, the statements that
-- aren't answered, and the requests that connections have in hand
pub record Ledger : Type 0 where
  pub routers : List RouterState
  pub place : ℕ
  pub begun : List Statement
  pub unanswered : List Unanswered
  pub hands : List Hand

abbrev pub fresh_ledger : List RouterState → Ledger
fresh_ledger routers =
    record { routers = routers; place = 0; begun = []; unanswered = []; hands = [] }

-- what a step does at its router: the ledger after it, the statements that it answers, and its
-- replies
pub record Entered : Type 0 where
  pub ledger : Ledger
  pub answered : List Answered
  pub replied : List Replied

abbrev pub passed : Ledger → Entered
passed l = record { ledger = record l { place = l.place + 1 }; answered = []; replied = [] }

abbrev pub entered_at : Ledger → ℕ → RouterState → NodeEvent → NodeAnswer → Entered
entered_at l n r e a =
    let turn = turn_of r e a in
    let us = unanswered_behind n r e a l.unanswered in
    let hands = held_in n l.begun r e a l.hands in
    record {
      ledger = record {
        routers = slice_set l.routers n turn.state;
        place = l.place + 1;
        begun = l.begun ++ map (λ part. part.1) (statements_in a);
        unanswered = left_unanswered us;
        hands = left_in_hand n turn.replies hands;
      };
      answered = answered_among us;
      replied = replied_in l.place n hands turn.replies;
    }

-- without memory nothing has changed
abbrev pub entered : Ledger → ℕ → Option RouterState → NodeEvent → NodeAnswer → Entered
entered l n None e a = passed l
entered l n (Some r) e a = if is_memory a then passed l else entered_at l n r e a

-- a router that starts again has no connection and no statement
abbrev pub swapped : Ledger → ℕ → Option RouterState → Ledger
swapped l n None = record l { place = l.place + 1 }
swapped l n (Some r) =
    record {
      routers = slice_set l.routers n (again n r);
      place = l.place + 1;
      begun = l.begun;
      unanswered = filter (λ u. not (nat_eq u.router n)) l.unanswered;
      hands = filter (λ h. not (nat_eq h.router n)) l.hands;
    }

unfoldable pub entered_by : Ledger → Ran → Entered
entered_by l (Step (Router n) e a faults) = entered l n (slice_get l.routers n) e a
entered_by l (Step (Shard n) e a faults) = passed l
entered_by l (Swapped (Router n)) =
    record { ledger = swapped l n (slice_get l.routers n); answered = []; replied = [] }
entered_by l (Swapped (Shard n)) = passed l

-- after a run
abbrev pub ledger_behind : Ledger → List Ran → Ledger
ledger_behind l [] = l
ledger_behind l (ran ∷ run) = ledger_behind (entered_by l ran).ledger run

-- the statements that a run answers, in their order
abbrev pub answered_from : Ledger → List Ran → List Answered
answered_from l [] = []
answered_from l (ran ∷ run) =
    (entered_by l ran).answered ++ answered_from (entered_by l ran).ledger run

-- its replies to requests, in their order
abbrev pub replied_from : Ledger → List Ran → List Replied
replied_from l [] = []
replied_from l (ran ∷ run) =
    (entered_by l ran).replied ++ replied_from (entered_by l ran).ledger run

-- of a run that begins with these routers
abbrev pub answered_in : List RouterState → List Ran → List Answered
answered_in routers run = answered_from (fresh_ledger routers) run

abbrev pub all_replied : List RouterState → List Ran → List Replied
all_replied routers run = replied_from (fresh_ledger routers) run
