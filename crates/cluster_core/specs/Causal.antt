-- That a client which hands on the time of a reply reads its own writes: what a transaction reads
-- at, and the time of a reply that tells of a commit.
use Rattle.std.specs.Prelude.{◌≡◌, ◌≤◌, ℕ, ◌+◌, List, All, Contains, IsTrue, Option, Some, None}
use Rattle.std.specs.Prelude.{unwrap_or, slice_get, take}
use Rattle.txn_types.specs.Order.{same_tag}
use Rattle.txn_types.specs.declared.event.NodeAnswer.{NodeAnswer}
use Rattle.txn_types.specs.declared.event.NodeEvent.{NodeEvent}
use Rattle.txn_types.specs.declared.message.Statement.{Statement}
use Rattle.txn_types.specs.declared.node.NodeId.TheVariants.{Router}
use Rattle.txn_semantics.specs.declared.commits.Answered.{Answered}
use Rattle.txn_semantics.specs.declared.commits.Entry.{Entry}
use Rattle.client_cmd.specs.declared.request.Request.{Request}
use Rattle.client_cmd.specs.declared.request.Request.TheVariants as request
use Rattle.router_state.specs.State.{RouterState}
use Rattle.txn_model.specs.declared.ran.Ran.{Ran}
use Rattle.txn_model.specs.declared.ran.Ran.TheVariants.{Step}
use Rattle.cluster_core.specs.Answering.{statements_in}
use Rattle.cluster_core.specs.Replying.{Replied}
use Rattle.cluster_core.specs.Routers.{Asked, request_at}
use Rattle.cluster_core.specs.Ledger.{fresh_ledger, ledger_behind, answered_in, all_replied}
use Rattle.cluster_core.specs.Telling.{Telling, Done, telling_of}

-- what is read at is the time that is named, or else at or above each time that the request names
-- and the router has met
abbrev pub ReadsFrom : ℕ → ℕ → Request → Type 0
ReadsFrom time read_at (request.Statement op txn (Some at) after more seen) = read_at ≡ at
ReadsFrom time read_at (request.Statement op txn None after more seen) = (time ≤ read_at)
    × (unwrap_or after 0 ≤ read_at) × (unwrap_or seen 0 ≤ read_at)
ReadsFrom time read_at other = Unit {0}

-- At the place of a run a router with this time took a request, and sent this as the first
-- statement of a transaction.
pub record Begins (routers : List RouterState) (run : List Ran) (place : ℕ) (r : RouterState)
    (asked : Asked) (m : Statement) : Type 0 where
  pub n : ℕ
  pub shard : ℕ
  pub event : NodeEvent
  pub answer : NodeAnswer
  pub faults : ℕ
  pub step : slice_get run place ≡ Some (Step (Router n) event answer faults)
  pub router : slice_get (ledger_behind (fresh_ledger routers) (take place run)).routers n ≡ Some r
  pub asks : request_at r event answer ≡ Some asked
  pub sent : Contains (statements_in answer) (shard, m)
  pub first : m.k ≡ 1

-- each answered statement of a transaction was read at such a time
abbrev pub ReadsCausal : List RouterState → List Ran → List Answered → Type 0
ReadsCausal routers run answered =
    (place : ℕ) (r : RouterState) (asked : Asked) (m : Statement)
    → Begins routers run place r asked m
    → All (λ a. IsTrue (same_tag a.tag m.tag) → ReadsFrom r.time a.read_at asked.1) answered

abbrev pub time_of : Option RouterState → ℕ
time_of None = 0
time_of (Some r) = r.time

-- the router's time after the step of a reply, which the reply carries
abbrev pub time_behind : List RouterState → List Ran → ℕ → ℕ → ℕ
time_behind routers run n place =
    time_of (slice_get (ledger_behind (fresh_ledger routers) (take (place + 1) run)).routers n)

-- a reply that tells of a commit carries a time at or above it
abbrev pub TellsTime : List RouterState → List Ran → List Entry → Replied → Type 0
TellsTime routers run entries r =
    (t : Telling) → telling_of r ≡ Some t → t.meant ≡ Done → All (λ e. IsTrue (same_tag e.tag t.tag)
    → e.at ≤ time_behind routers run r.hand.router r.place) entries

pub record Causal (routers : List RouterState) (run : List Ran)
    (entries : List Entry) : Type 0 where
  pub reads : ReadsCausal routers run (answered_in routers run)
  pub tells : All (TellsTime routers run entries) (all_replied routers run)
