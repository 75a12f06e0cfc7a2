-- What routers send: each statement is a part of a client's operation.
use Rattle.std.specs.Prelude.{◌≡◌, ℕ, List, All, Contains}
use Rattle.txn_types.specs.declared.message.Envelope.{Envelope}
use Rattle.txn_types.specs.declared.message.Msg.{Msg}
use Rattle.txn_types.specs.declared.message.Msg.TheVariants as msg
use Rattle.txn_types.specs.declared.message.Statement.{Statement}
use Rattle.txn_types.specs.declared.node.NodeId.{NodeId}
use Rattle.txn_types.specs.declared.node.NodeId.TheVariants.{Shard, Router}
use Rattle.chunk_map.specs.Map.{Map}
use Rattle.chunk_map.specs.Parts.{part_at}
use Rattle.cluster_core.specs.Answering.{Unanswered}

-- a statement for a shard
abbrev pub MsgFits : (ℕ → Statement → Type 0) → ℕ → Msg → Type 0
MsgFits Q shard (msg.Statement m) = Q shard m
MsgFits Q shard other = Unit {0}

-- a message to a node
abbrev pub SentTo : (ℕ → Statement → Type 0) → NodeId → Msg → Type 0
SentTo Q (Shard n) m = MsgFits Q n m
SentTo Q (Router n) m = Unit {0}

-- each statement that was sent
abbrev pub SentFit : (ℕ → Statement → Type 0) → List Envelope → Type 0
SentFit Q out = All (λ e. SentTo Q e.to e.msg) out

-- The statement for a shard is the shard's part of one that a router opened for a request.
pub record IsPart (chunks : Map) (begun : List Unanswered) (shard : ℕ)
    (m : Statement) : Type 0 where
  pub statement : Unanswered
  pub opened : Contains begun statement
  pub asked : Contains statement.shards shard
  pub tag : m.tag ≡ statement.tag
  pub k : m.k ≡ statement.k
  pub op : m.op ≡ part_at chunks statement.op shard
