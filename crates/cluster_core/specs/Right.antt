-- When a run is right: its answers are those of one list of committed write sets. Each statement
-- sees exactly the writes committed at or below its read timestamp, under its own; no two
-- overlapping committed transactions wrote one document; two-phase commits carry the greatest
-- prepare timestamp and are nowhere aborted; and what was told of a transaction agrees with the
-- list, and has its cause.
use Rattle.std.specs.Prelude.{ℕ, List, map}
use Rattle.txn_semantics.specs.Answers.{ReadsRight, RefusedRight, FirstCommitter, Whole, began}
use Rattle.chunk_map.specs.Map.{Map}
use Rattle.router_state.specs.State.{RouterState}
use Rattle.txn_model.specs.Decisions.{DecisionsGreatest, NowhereAborted}
use Rattle.txn_model.specs.declared.ran.Ran.{Ran}
use Rattle.cluster_core.specs.Nodes.{Nodes, journals_of, commits_of}
use Rattle.cluster_core.specs.Trace.{IsTrace}
use Rattle.cluster_core.specs.Ledger.{answered_in, all_replied}
use Rattle.cluster_core.specs.Telling.{told_in, ToldRight}
use Rattle.cluster_core.specs.Deciding.{OneDecision, TokensGiven}
use Rattle.cluster_core.specs.Causes.{Past, AllCaused}

-- the boots of the routers as they started
abbrev pub boots_of : List RouterState → List ℕ
boots_of routers = map (λ r. r.boot) routers

abbrev pub past_of : Map → Nodes → List Ran → List Nodes → Nodes → Past
past_of chunks start run trace now =
    record { chunks = chunks; routers = start.routers; run = run; trace = trace; now = now }

-- The list of commits is that of the journals as they are now. What is told of transactions rests
-- on tokens that were handed back as they were told.
pub record Right (chunks : Map) (start : Nodes) (run : List Ran) (now : Nodes) : Type 0 where
  pub trace : List Nodes
  pub is_trace : IsTrace start run trace now
  pub reads : ReadsRight (commits_of now) (answered_in start.routers run)
  pub refusals : RefusedRight (commits_of now) (answered_in start.routers run)
  pub first_committer : FirstCommitter (boots_of start.routers) (commits_of now)
  pub whole : Whole (boots_of start.routers) (commits_of now) (answered_in start.routers run)
  pub greatest : DecisionsGreatest (journals_of now)
  pub nowhere_aborted : NowhereAborted (journals_of now) (commits_of now)
  pub told : ToldRight (answered_in start.routers run) (all_replied start.routers run)
  pub one_decision : TokensGiven start.routers run → OneDecision (began (boots_of start.routers))
      run (commits_of now) (answered_in start.routers run) (told_in start.routers run)
  pub causes : TokensGiven start.routers run
      → AllCaused (past_of chunks start run trace now) (told_in start.routers run)
