-- Where messages go: each node that a message goes to, comes from or names is there, and so is each
-- that a router or a shard will send to: the shards of its transactions, of the tokens that it was
-- given, of its map and of the commits that it coordinates, and the routers that wait for these.
use Rattle.std.specs.Prelude.{◌≡◌, ◌<◌, ℕ, List, All, IfSome, Some, length, slice_get}
use Rattle.txn_types.specs.Letters.{Letter}
use Rattle.txn_types.specs.declared.event.Happening.{Happening}
use Rattle.txn_types.specs.declared.event.Happening.TheVariants as what
use Rattle.txn_types.specs.declared.message.Envelope.{Envelope}
use Rattle.txn_types.specs.declared.message.Msg.{Msg}
use Rattle.txn_types.specs.declared.message.Msg.TheVariants as msg
use Rattle.txn_types.specs.declared.node.NodeId.{NodeId}
use Rattle.txn_types.specs.declared.node.NodeId.TheVariants.{Shard, Router}
use Rattle.journal_rec.specs.declared.record.Rec.{Rec}
use Rattle.journal_rec.specs.declared.record.Rec.TheVariants as rec
use Rattle.coordinator.specs.TwoPhase.{Coordinated, Coordinations}
use Rattle.shard_core.specs.NodeStep.{NodeState}
use Rattle.chunk_map.specs.Map.{Map, IsMap}
use Rattle.router_state.specs.State.{Post, RouterState}
use Rattle.router_state.specs.declared.state.Doing.{Doing}
use Rattle.router_state.specs.declared.state.Doing.TheVariants.{Begun, Sought}
use Rattle.router_state.specs.declared.state.Phase.{Phase}
use Rattle.router_state.specs.declared.state.Phase.TheVariants.{Asking}
use Rattle.router_state.specs.declared.state.Transaction.{Transaction}
use Rattle.cluster_core.specs.Nodes.{Nodes}
use Rattle.world_laws.specs.Clocks.{EachShard}

-- a node of a cluster of so many shards and so many routers
abbrev pub IsThere : ℕ → ℕ → NodeId → Type 0
IsThere shards routers (Shard n) = n < shards
IsThere shards routers (Router n) = n < routers

-- the node is there
abbrev pub HasNode : Nodes → NodeId → Type 0
HasNode nodes node = IsThere (length nodes.shards) (length nodes.routers) node

-- What is said of nodes is said by a predicate on them.

abbrev pub ShardsThere : (NodeId → Type 0) → List ℕ → Type 0
ShardsThere T shards = All (λ n. T (Shard n)) shards

abbrev pub RoutersThere : (NodeId → Type 0) → List ℕ → Type 0
RoutersThere T routers = All (λ n. T (Router n)) routers

-- shards that take part, each with its boot
abbrev pub PartsThere : (NodeId → Type 0) → List (ℕ × ℕ) → Type 0
PartsThere T parts = All (λ part. T (Shard part.0)) parts

-- the nodes that a message names, to which others are sent for it
abbrev pub NamesThere : (NodeId → Type 0) → Msg → Type 0
NamesThere T (msg.Answer a) = T (Shard a.shard)
NamesThere T (msg.CommitTwo m) = PartsThere T m.parts
NamesThere T (msg.Prepare m) = T (Shard m.coordinator)
NamesThere T other = Unit {0}

abbrev pub LetterThere : (NodeId → Type 0) → Letter → Type 0
LetterThere T l = T l.0 × NamesThere T l.1

pub record EnvThere (T : NodeId → Type 0) (e : Envelope) : Type 0 where
  pub goes : T e.to
  pub comes : T e.from
  pub names : NamesThere T e.msg

-- what an event brings to a node
abbrev pub EventThere : (NodeId → Type 0) → Happening → Type 0
EventThere T (what.Deliver e) = EnvThere T e
EventThere T other = Unit {0}

-- A router: its map, and in each session the transaction, or the shard of the token.

abbrev pub PostThere : (NodeId → Type 0) → Post → Type 0
PostThere T post = T (Shard post.0) × NamesThere T post.1

abbrev pub PostsThere : (NodeId → Type 0) → List Post → Type 0
PostsThere T posts = All (PostThere T) posts

abbrev pub PhaseThere : (NodeId → Type 0) → Phase → Type 0
PhaseThere T (Asking asker op answers) = All (λ answer. T (Shard answer.0)) answers
PhaseThere T other = Unit {0}

pub record TransactionThere (T : NodeId → Type 0) (t : Transaction) : Type 0 where
  pub parts : PartsThere T t.parts
  pub wrote : ShardsThere T t.wrote
  pub answers : PhaseThere T t.phase
  pub waiting : PostsThere T t.waiting

abbrev pub DoingThere : (NodeId → Type 0) → Doing → Type 0
DoingThere T (Begun t) = TransactionThere T t
DoingThere T (Sought seeking known) = IfSome seeking (λ k. T (Shard k.shard))

pub record MapThere (T : NodeId → Type 0) (chunks : Map) : Type 0 where
  pub is : IsMap chunks
  pub some : 0 < chunks.shards
  pub all : (n : ℕ) → n < chunks.shards → T (Shard n)

abbrev pub SessionsThere : (NodeId → Type 0) → RouterState → Type 0
SessionsThere T r = All (λ entry. DoingThere T entry.1.doing) r.sessions

pub record RouterThere (T : NodeId → Type 0) (r : RouterState) : Type 0 where
  pub map : MapThere T r.chunks
  pub sessions : SessionsThere T r

-- A shard: what it coordinates, and what its records and those in hand begin to.

pub record CoordinatedThere (T : NodeId → Type 0) (c : Coordinated) : Type 0 where
  pub parts : PartsThere T c.plan.parts
  pub askers : RoutersThere T c.askers

abbrev pub PlansThere : (NodeId → Type 0) → Coordinations → Type 0
PlansThere T coords = All (λ c. CoordinatedThere T c.1) coords

abbrev pub BeginsThere : (NodeId → Type 0) → Rec → Type 0
BeginsThere T (rec.CoordStart tag lsid number parts) = PartsThere T parts
BeginsThere T other = Unit {0}

pub record NodeThere (T : NodeId → Type 0) (n : NodeState) : Type 0 where
  pub plans : PlansThere T n.core.coord
  pub records : All (BeginsThere T) n.records
  pub hand : All (BeginsThere T) n.hand

-- Of all nodes and messages.
pub record AddressesStand (nodes : Nodes) : Type 0 where
  pub shards : EachShard nodes (λ number n. NodeThere (HasNode nodes) n)
  pub routers : (number : ℕ) (r : RouterState) → slice_get nodes.routers number ≡ Some r
      → RouterThere (HasNode nodes) r
  pub sent : All (EnvThere (HasNode nodes)) nodes.sent
