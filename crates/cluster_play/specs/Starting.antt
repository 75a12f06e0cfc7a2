-- Nodes as their starts left them, and their disks.
use Rattle.std.specs.Prelude.{◌≡◌, ◌<◌, ◌≤◌, ℕ, List, [], ◌++◌, map, take, drop, Some, slice_get}
use Rattle.journal_rec.specs.declared.record.Rec.{Rec}
use Rattle.shard_core.specs.NodeStep.{NodeState, started}
use Rattle.chunk_map.specs.Map.{Map}
use Rattle.router_state.specs.State.{RouterState, fresh_router}
use Rattle.node_store.specs.Nodes.{ShardOn}
use Rattle.router_store.specs.Routers.{RouterOn}
use Rattle.record_store.specs.Logged.{DiskRecords}
use Rattle.txn_types.specs.declared.node.NodeId.{NodeId}
use Rattle.txn_types.specs.declared.node.NodeId.TheVariants.{Shard, Router}

-- it started from some records; from none, where its disk tells what it holds (`told`)
pub record IsStarted (told : Type 0) (n : ℕ) (s : NodeState) : Type 0 where
  pub recs : List Rec
  pub faults : ℕ
  pub new : told → recs ≡ []
  pub starts : started n recs faults ≡ Some s

abbrev pub AllStarted : Type 0 → List NodeState → Type 0
AllStarted told shards = (n : ℕ) (s : NodeState) → slice_get shards n ≡ Some s
    → IsStarted told n s

-- it is fresh, at some boot; at the first one, where its disk tells what it holds
abbrev pub IsBooted : Type 0 → Map → ℕ → RouterState → Type 0
IsBooted told chunks n r = (boot : ℕ) × (told → boot ≡ 1) × (r ≡ fresh_router n boot chunks)

abbrev pub AllBooted : Type 0 → Map → List RouterState → Type 0
AllBooted told chunks routers = (n : ℕ) (r : RouterState) → slice_get routers n ≡ Some r
    → IsBooted told chunks n r

-- the states of nodes, and their disks

abbrev pub shard_states : {D : Type 0} → List (ShardOn (DiskRecords D)) → List NodeState
shard_states shards = map (λ n. n.node) shards

abbrev pub router_states : {D : Type 0} → List (RouterOn (DiskRecords D)) → List RouterState
router_states routers = map (λ n. n.router) routers

abbrev pub shard_disks : {D : Type 0} → List (ShardOn (DiskRecords D)) → List D
shard_disks shards = map (λ n. n.log.journal.disk) shards

abbrev pub router_disks : {D : Type 0} → List (RouterOn (DiskRecords D)) → List D
router_disks routers = map (λ n. n.log.journal.disk) routers

-- with disks put in after those of all shards
abbrev pub behind_shards : {D : Type 0} → List D → List D → List D
behind_shards disks routers = take 16 disks ++ routers ++ drop 16 disks

-- a node that isn't among the others, of whose kind there are so many routers
abbrev pub IsLone : NodeId → ℕ → Type 0
IsLone (Shard n) routers = (n < 16) × (routers ≤ 8)
IsLone (Router n) routers = (n < 8) × (routers ≤ 7)
