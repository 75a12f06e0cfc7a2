-- What may happen in a cluster, step by step. A message may be delivered late, again, out of order
-- or never; a node may be replaced by one that starts from what a crash leaves of its disk.
use Rattle.std.specs.Prelude.{◌≡◌, ◌≤◌, ◌<◌, ◌⊎◌, ◌+◌, ◌^◌, ℕ, List, [], ◌∷◌, ◌++◌, Contains, Some}
use Rattle.std.specs.Prelude.{length, slice_get, slice_set}
use Rattle.txn_types.specs.declared.event.Happening.{Happening}
use Rattle.txn_types.specs.declared.event.Happening.TheVariants as what
use Rattle.txn_types.specs.declared.event.NodeAnswer.{NodeAnswer}
use Rattle.txn_types.specs.declared.event.NodeEvent.{NodeEvent}
use Rattle.txn_types.specs.declared.message.Envelope.{Envelope}
use Rattle.txn_types.specs.declared.node.NodeId.{NodeId}
use Rattle.txn_types.specs.declared.node.NodeId.TheVariants.{Shard, Router}
use Rattle.journal_rec.specs.declared.record.Rec.{Rec}
use Rattle.shard_core.specs.Laws.{HasTimes}
use Rattle.shard_core.specs.NodeStep.{NodeState, ShardTakes, started}
use Rattle.chunk_map.specs.Map.{Map}
use Rattle.router_state.specs.State.{RouterState, fresh_router}
use Rattle.router_core.specs.Step.{RouterTakes}
use Rattle.txn_model.specs.declared.ran.Ran.{Ran}
use Rattle.txn_model.specs.declared.ran.Ran.TheVariants.{Step, Swapped}
use Rattle.txn_types.specs.Letters.{given_out}
use Rattle.cluster_core.specs.Nodes.{Nodes}

-- what is delivered was sent, and to this node
abbrev pub MayCome : List Envelope → NodeId → Happening → Type 0
MayCome sent node (what.Deliver e) = Contains sent e × (e.to ≡ node)
MayCome sent node other = Unit {0}

-- what a crash may leave of a node's records: those acknowledged, or these and those of the append
-- in hand
abbrev pub MayRemain : NodeState → List Rec → Type 0
MayRemain n recs = (recs ≡ n.records) ⊎ (recs ≡ n.records ++ n.hand)

-- a router that starts again
abbrev pub again : ℕ → RouterState → RouterState
again n before = fresh_router n (before.boot + 1) before.chunks

-- nodes as their starts left them, with one map of chunks, and nothing sent
pub record IsFresh (chunks : Map) (nodes : Nodes) : Type 0 where
  pub shards : (n : ℕ) (s : NodeState) → slice_get nodes.shards n ≡ Some s
      → (recs : List Rec) × (faults : ℕ) × (started n recs faults ≡ Some s)
  pub routers : (n : ℕ) (r : RouterState) → slice_get nodes.routers n ≡ Some r
      → (boot : ℕ) × (r ≡ fresh_router n boot chunks)
  pub sent : nodes.sent ≡ []
  pub count : chunks.shards ≡ length nodes.shards
  pub some : 0 < length nodes.shards

-- a shard takes an event; its moment is one of 32 bits, and the times of what is delivered are of
-- 64
pub record ShardSteps (old : Nodes) (n : ℕ) (e : NodeEvent) (a : NodeAnswer) (faults : ℕ)
    (new : Nodes) : Type 0 where
  pub before : NodeState
  pub after : NodeState
  pub there : slice_get old.shards n ≡ Some before
  pub comes : MayCome old.sent (Shard n) e.what
  pub wall : e.wall < 2 ^ 32
  pub times : HasTimes e.what
  pub takes : ShardTakes before e a after
  pub count : faults ≡ after.faults
  pub nodes : new ≡ record {
    shards = slice_set old.shards n after;
    routers = old.routers;
    sent = old.sent ++ given_out a;
  }

-- a router takes an event, likewise
pub record RouterSteps (old : Nodes) (n : ℕ) (e : NodeEvent) (a : NodeAnswer) (faults : ℕ)
    (new : Nodes) : Type 0 where
  pub before : RouterState
  pub after : RouterState
  pub there : slice_get old.routers n ≡ Some before
  pub comes : MayCome old.sent (Router n) e.what
  pub wall : e.wall < 2 ^ 32
  pub times : HasTimes e.what
  pub takes : RouterTakes before e a after
  pub count : faults ≡ 0
  pub nodes : new ≡ record {
    shards = old.shards;
    routers = slice_set old.routers n after;
    sent = old.sent ++ given_out a;
  }

-- a shard is started again; its disk has failed so often by then
pub record ShardStarts (old : Nodes) (n : ℕ) (new : Nodes) : Type 0 where
  pub before : NodeState
  pub after : NodeState
  pub recs : List Rec
  pub faults : ℕ
  pub there : slice_get old.shards n ≡ Some before
  pub remain : MayRemain before recs
  pub later : before.faults ≤ faults
  pub starts : started n recs faults ≡ Some after
  pub nodes : new
      ≡ record { shards = slice_set old.shards n after; routers = old.routers; sent = old.sent }

-- a router is started again; its journal has its boots alone
pub record RouterStarts (old : Nodes) (n : ℕ) (new : Nodes) : Type 0 where
  pub before : RouterState
  pub there : slice_get old.routers n ≡ Some before
  pub left : before.boot < 4294967294
  pub nodes : new ≡ record {
    shards = old.shards;
    routers = slice_set old.routers n (again n before);
    sent = old.sent;
  }

-- what happens in a cluster
abbrev pub Happens : Nodes → Ran → Nodes → Type 0
Happens old (Step (Shard n) e a faults) new = ShardSteps old n e a faults new
Happens old (Step (Router n) e a faults) new = RouterSteps old n e a faults new
Happens old (Swapped (Shard n)) new = ShardStarts old n new
Happens old (Swapped (Router n)) new = RouterStarts old n new

-- the nodes before each step of a run, and those after it
abbrev pub IsTrace : Nodes → List Ran → List Nodes → Nodes → Type 0
IsTrace old [] [] new = new ≡ old
IsTrace old [] (nodes ∷ trace) new = ⊥
IsTrace old (ran ∷ run) [] new = ⊥
IsTrace old (ran ∷ run) (nodes ∷ trace) new = (nodes ≡ old)
    × ((mid : Nodes) × Happens old ran mid × IsTrace mid run trace new)

-- at this place of a run stands this step, and the nodes before it are these
pub record At (trace : List Nodes) (run : List Ran) (place : ℕ) (nodes : Nodes)
    (ran : Ran) : Type 0 where
  pub before : slice_get trace place ≡ Some nodes
  pub step : slice_get run place ≡ Some ran
