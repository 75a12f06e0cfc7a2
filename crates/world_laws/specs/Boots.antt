-- The boots in messages: none is above that of the shard that it is of, but for that of a Recover,
-- which is a token's. What routers have of the shards that take part, and what shards coordinate
-- and record, holds no other.
use Rattle.std.specs.Prelude.{◌≡◌, ◌≤◌, ℕ, List, All, Some, slice_get}
use Rattle.txn_types.specs.declared.event.Happening.{Happening}
use Rattle.txn_types.specs.declared.event.Happening.TheVariants as what
use Rattle.txn_types.specs.declared.message.Envelope.{Envelope}
use Rattle.txn_types.specs.declared.message.Msg.{Msg}
use Rattle.txn_types.specs.declared.message.Msg.TheVariants as msg
use Rattle.txn_types.specs.declared.node.NodeId.{NodeId}
use Rattle.txn_types.specs.declared.node.NodeId.TheVariants.{Shard, Router}
use Rattle.txn_types.specs.declared.names.Tag.{Tag}
use Rattle.txn_types.specs.Letters.{Letter}
use Rattle.journal_rec.specs.declared.record.Rec.{Rec}
use Rattle.journal_rec.specs.declared.record.Rec.TheVariants as rec
use Rattle.coordinator.specs.TwoPhase.{Coordinated, Coordinations}
use Rattle.router_state.specs.declared.deed.Deed.{Deed}
use Rattle.router_state.specs.declared.deed.Given.{Given}
use Rattle.router_state.specs.declared.state.Doing.{Doing}
use Rattle.router_state.specs.declared.state.Doing.TheVariants.{Begun, Sought}
use Rattle.router_state.specs.Deeds.{Move}
use Rattle.router_state.specs.State.{Post, RouterState}
use Rattle.shard_image.specs.Image.{image_of}
use Rattle.shard_core.specs.NodeStep.{NodeState}
use Rattle.cluster_core.specs.Nodes.{Nodes}
use Rattle.cluster_core.specs.Parts.{AtShard}
use Rattle.world_laws.specs.Clocks.{EachShard}

-- What is said of boots is said by a predicate on a shard and a boot of it.

-- participants
abbrev pub PartsTold : (ℕ → ℕ → Type 0) → List (ℕ × ℕ) → Type 0
PartsTold B parts = All (λ part. B part.0 part.1) parts

-- a message to a shard
abbrev pub AskedBoots : (ℕ → ℕ → Type 0) → ℕ → Msg → Type 0
AskedBoots B shard (msg.Statement m) = B shard m.boot
AskedBoots B shard (msg.Commit m) = B shard m.boot
AskedBoots B shard (msg.CommitTwo m) = B shard m.boot × PartsTold B m.parts
AskedBoots B shard (msg.Prepare m) = B shard m.boot
AskedBoots B shard other = Unit {0}

-- a message of a shard
abbrev pub ToldBoots : (ℕ → ℕ → Type 0) → Msg → Type 0
ToldBoots B (msg.Answer a) = B a.shard a.boot
ToldBoots B (msg.Outcome o) = B o.shard o.boot
ToldBoots B other = Unit {0}

abbrev pub BootsTo : (ℕ → ℕ → Type 0) → NodeId → Msg → Type 0
BootsTo B (Shard shard) m = AskedBoots B shard m
BootsTo B (Router router) m = ToldBoots B m

abbrev pub LetterBoots : (ℕ → ℕ → Type 0) → Letter → Type 0
LetterBoots B l = BootsTo B l.0 l.1

abbrev pub EnvBoots : (ℕ → ℕ → Type 0) → Envelope → Type 0
EnvBoots B e = BootsTo B e.to e.msg

-- what an event brings to a node
abbrev pub BootsBy : (ℕ → ℕ → Type 0) → NodeId → Happening → Type 0
BootsBy B node (what.Deliver e) = BootsTo B node e.msg
BootsBy B node other = Unit {0}

-- What a router has: in each transaction the shards that take part, and what waits for an answer.

abbrev pub PostBoots : (ℕ → ℕ → Type 0) → Post → Type 0
PostBoots B post = AskedBoots B post.0 post.1

abbrev pub AllBoots : (ℕ → ℕ → Type 0) → List Post → Type 0
AllBoots B posts = All (PostBoots B) posts

abbrev pub DoingBoots : (ℕ → ℕ → Type 0) → Doing → Type 0
DoingBoots B (Begun t) = PartsTold B t.parts × AllBoots B t.waiting
DoingBoots B (Sought seeking known) = Unit {0}

abbrev pub RouterBoots : (ℕ → ℕ → Type 0) → RouterState → Type 0
RouterBoots B s = All (λ entry. DoingBoots B entry.1.doing) s.sessions

pub record GivenBoots (B : ℕ → ℕ → Type 0) (g : Given) : Type 0 where
  pub aborts : AllBoots B g.aborts
  pub sends : AllBoots B g.sends

pub record DeedBoots (B : ℕ → ℕ → Type 0) (d : Deed) : Type 0 where
  pub doing : DoingBoots B d.session.doing
  pub given : GivenBoots B d.given

pub record MoveBoots (B : ℕ → ℕ → Type 0) (m : Move) : Type 0 where
  pub state : RouterBoots B m.state
  pub given : GivenBoots B m.given

-- What a shard has: the participants of what it coordinates, and of what its records and those in
-- hand begin to.

abbrev pub CoordinatedTold : (ℕ → ℕ → Type 0) → Tag × Coordinated → Type 0
CoordinatedTold B c = PartsTold B c.1.plan.parts

abbrev pub PlansTold : (ℕ → ℕ → Type 0) → Coordinations → Type 0
PlansTold B coords = All (CoordinatedTold B) coords

abbrev pub BeginsTold : (ℕ → ℕ → Type 0) → Rec → Type 0
BeginsTold B (rec.CoordStart tag lsid number parts) = PartsTold B parts
BeginsTold B other = Unit {0}

pub record NodeTold (B : ℕ → ℕ → Type 0) (n : NodeState) : Type 0 where
  pub plans : PlansTold B n.core.coord
  pub records : All (BeginsTold B) n.records
  pub hand : All (BeginsTold B) n.hand

-- A shard's boot is that of its records, and none is in hand.

abbrev pub IsNoBoot : Rec → Type 0
IsNoBoot (rec.Boot boot) = ⊥
IsNoBoot other = Unit {0}

pub record BootStands (n : NodeState) : Type 0 where
  pub records : n.core.part.boot ≡ (image_of n.records).boot
  pub hand : All IsNoBoot n.hand

-- The shard of that number has come to the boot.
abbrev pub HasBooted : Nodes → ℕ → ℕ → Type 0
HasBooted nodes shard boot = AtShard nodes shard (λ n. boot ≤ n.core.part.boot)

pub record BootsStand (nodes : Nodes) : Type 0 where
  pub shards : EachShard nodes (λ number n. BootStands n × NodeTold (HasBooted nodes) n)
  pub routers : (number : ℕ) (r : RouterState) → slice_get nodes.routers number ≡ Some r
      → RouterBoots (HasBooted nodes) r
  pub sent : All (EnvBoots (HasBooted nodes)) nodes.sent
