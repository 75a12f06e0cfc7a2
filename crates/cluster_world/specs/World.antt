-- A cluster as its calls see it: its nodes and their messages, the list of commits, and what
-- happened since it was made.
use Rattle.std.specs.Prelude.{◌≡◌, ◌<◌, ◌≤◌, ◌++◌, ◌∷◌, ℕ, Bool, false, List, [], map, length, take}
use Rattle.std.specs.Prelude.{slice_get, slice_set, Option, Some, None, unwrap_or, Result, Ok, Err}
use Rattle.txn_types.specs.declared.event.Happening.{Happening}
use Rattle.txn_types.specs.declared.event.Happening.TheVariants as what
use Rattle.txn_types.specs.declared.event.NodeAnswer.{NodeAnswer}
use Rattle.txn_types.specs.declared.event.NodeEvent.{NodeEvent}
use Rattle.txn_types.specs.declared.message.Envelope.{Envelope}
use Rattle.txn_types.specs.declared.node.NodeId.{NodeId}
use Rattle.txn_types.specs.declared.node.NodeId.TheVariants.{Shard, Router}
use Rattle.txn_semantics.specs.declared.commits.Entry.{Entry}
use Rattle.journal_rec.specs.declared.record.Rec.{Rec}
use Rattle.shard_core.specs.NodeStep.{NodeState, ShardTakes, started}
use Rattle.router_state.specs.State.{RouterState}
use Rattle.txn_model.specs.Commits.{Journals}
use Rattle.txn_model.specs.declared.ran.Ran.{Ran}
use Rattle.txn_model.specs.declared.ran.Ran.TheVariants.{Step}
use Rattle.cluster_core.specs.Nodes.{Nodes, commits_of}
use Rattle.cluster_core.specs.Trace.{Happens, MayRemain, again}
use Rattle.cluster_world.specs.declared.error.SwapErr.TheVariants as error
use Rattle.cluster_world.specs.declared.event.WorldEvent.{WorldEvent}
use Rattle.cluster_world.specs.declared.event.WorldEvent.TheVariants.{At, Deliver}
use Rattle.cluster_world.specs.declared.event.WorldAnswer.{WorldAnswer}

-- `spent`: a call was refused
pub record WorldState : Type 0 where
  pub nodes : Nodes
  pub commits : List Entry
  pub run : List Ran
  pub spent : Bool

abbrev pub world_of : List NodeState → List RouterState → List Envelope → List Entry → List Ran
    → Bool → WorldState
world_of shards routers sent entries run spent =
    record {
      nodes = record { shards = shards; routers = routers; sent = sent };
      commits = entries;
      run = run;
      spent = spent;
    }

-- the list of commits is that of the journals as they are, unless a call was refused
abbrev pub IsListed : WorldState → Type 0
IsListed w = w.spent ≡ false → w.commits ≡ commits_of w.nodes

-- the records of shards' journals
abbrev pub records_in : {S : Type 0} → (S → NodeState) → List S → Journals
records_in state shards = map (λ n. n.records) (map state shards)

-- the same, of one of them so many
abbrev pub cut_in : {S : Type 0} → (S → NodeState) → List S → ℕ → ℕ → Journals
cut_in state shards shard count = slice_set (records_in state shards) shard (take count
    (unwrap_or (slice_get (records_in state shards) shard) []))

-- the node is there
abbrev pub HasNode : Nodes → NodeId → Type 0
HasNode nodes (Shard n) = n < length nodes.shards
HasNode nodes (Router n) = n < length nodes.routers

-- a message is delivered to its node
abbrev pub delivered : ℕ → Option Envelope → Option (NodeId × NodeEvent)
delivered wall None = None
delivered wall (Some e) = Some (e.to, record { wall = wall; what = what.Deliver e })

-- the node that an event comes to, and what comes; none where that message wasn't sent
abbrev pub event_of : Nodes → WorldEvent → Option (NodeId × NodeEvent)
event_of nodes (At node e) = Some (node, e)
event_of nodes (Deliver number wall) = delivered wall (slice_get nodes.sent number)

-- what comes to a node by itself is no delivery
abbrev pub ComesAlone : Happening → Type 0
ComesAlone (what.Deliver e) = ⊥
ComesAlone other = Unit {0}

abbrev pub GoesTo : Nodes → Option Envelope → Type 0
GoesTo nodes None = ⊥
GoesTo nodes (Some e) = HasNode nodes e.to

-- the event may come: its node is there, and what is delivered was sent
abbrev pub MayHappen : Nodes → WorldEvent → Type 0
MayHappen nodes (At node e) = HasNode nodes node × ComesAlone e.what
MayHappen nodes (Deliver number wall) = GoesTo nodes (slice_get nodes.sent number)

-- as many shards, and as many routers
pub record AsMany (old new : Nodes) : Type 0 where
  pub shards : length new.shards ≡ length old.shards
  pub routers : length new.routers ≡ length old.routers

-- the same after a replacement, unless no new node was made
abbrev pub AsManyUnlessNext : {E : Type 0} → Nodes → Result (Unit {0}) (error.the_data E)
    → Nodes → Type 0
AsManyUnlessNext old (Ok u) new = AsMany old new
AsManyUnlessNext old (Err error.Memory) new = AsMany old new
AsManyUnlessNext old (Err (error.Next e)) new = Unit {0}

-- a shard took an event, and the list of commits has come to its records; its messages aren't sent
-- yet
pub record TakesAt (shard : ℕ) (old : WorldState) (e : NodeEvent) (a : NodeAnswer) (faults : ℕ)
    (new : WorldState) : Type 0 where
  pub before : NodeState
  pub after : NodeState
  pub there : slice_get old.nodes.shards shard ≡ Some before
  pub takes : ShardTakes before e a after
  pub count : faults ≡ after.faults
  pub is : new ≡ record old {
    nodes = record old.nodes { shards = slice_set old.nodes.shards shard after };
    commits = new.commits;
  }
  pub listed : new.commits ≡ commits_of new.nodes

-- a node took an event: it happened, and was written down
pub record Took (old : WorldState) (node : NodeId) (e : NodeEvent) (a : NodeAnswer)
    (new : WorldState) : Type 0 where
  pub faults : ℕ
  pub happens : Happens old.nodes (Step node e a faults) new.nodes
  pub run : new.run ≡ old.run ++ Step node e a faults ∷ []

-- a step: the event came to its node, which took it; the answer tells of it, and how many messages
-- were sent before
pub record Stepped (old : WorldState) (event : WorldEvent) (answer : WorldAnswer)
    (new : WorldState) : Type 0 where
  pub taken : NodeEvent
  pub comes : event_of old.nodes event ≡ Some (answer.node, taken)
  pub took : Took old answer.node taken answer.answer new
  pub first : answer.first ≡ length old.nodes.sent

-- A shard that starts again, from what a crash leaves of its journal; and a router.
pub record ShardRenews (n : ℕ) (before after : NodeState) : Type 0 where
  pub recs : List Rec
  pub faults : ℕ
  pub remain : MayRemain before recs
  pub later : before.faults ≤ faults
  pub starts : started n recs faults ≡ Some after

pub record RouterRenews (n : ℕ) (before after : RouterState) : Type 0 where
  pub left : before.boot < 4294967294
  pub starts : after ≡ again n before
