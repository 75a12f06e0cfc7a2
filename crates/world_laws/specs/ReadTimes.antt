-- The second part of the joint invariant with what stands beside it: a shard has its own number,
-- its state and its records hold no time above its clock and its last ceiling, those in hand none
-- above theirs, and no message names one above its envelope's.
use Rattle.std.specs.Prelude.{◌≡◌, ◌++◌, ℕ, All}
use Rattle.txn_types.specs.declared.message.Envelope.{Envelope}
use Rattle.txn_types.specs.declared.message.Msg.{Msg}
use Rattle.txn_types.specs.declared.message.Msg.TheVariants as msg
use Rattle.txn_types.specs.declared.node.NodeId.TheVariants.{Router}
use Rattle.shard_core.specs.NodeStep.{NodeState}
use Rattle.txn_model.specs.declared.ran.Ran.{Ran}
use Rattle.txn_model.specs.declared.ran.Ran.TheVariants.{Step}
use Rattle.cluster_core.specs.Nodes.{Nodes}
use Rattle.txn_types.specs.Letters.{given_out}
use Rattle.cluster_core.specs.Parts.{IsRunning, last_ceiling, RecordsBehind, AnswersBehind}
use Rattle.world_laws.specs.Behind.{CoreBehind, RecBehind, MsgBehind}
use Rattle.world_laws.specs.Clocks.{EachShard}

pub record NodeReads (number : ℕ) (n : NodeState) : Type 0 where
  pub own : n.core.part.shard ≡ number
  pub core : IsRunning n → CoreBehind n.core
  pub records : RecordsBehind n
  pub hand : All (RecBehind (last_ceiling (n.records ++ n.hand))) n.hand

pub record ReadsStand (nodes : Nodes) : Type 0 where
  pub shards : EachShard nodes NodeReads
  pub times : All (λ e. MsgBehind e.time e.msg) nodes.sent
  pub answers : All (AnswersBehind nodes) nodes.sent

-- a message of no shard: it answers nothing, votes and decides nothing, and tells no outcome
abbrev pub IsAsked : Msg → Type 0
IsAsked (msg.Answer a) = ⊥
IsAsked (msg.Vote v) = ⊥
IsAsked (msg.Decide d) = ⊥
IsAsked (msg.Outcome o) = ⊥
IsAsked other = Unit {0}

-- what a router sends is no message of a shard
abbrev pub RoutersAsk : Ran → Type 0
RoutersAsk (Step (Router n) e a faults) = All (λ (e : Envelope). IsAsked e.msg) (given_out a)
RoutersAsk other = Unit {0}
