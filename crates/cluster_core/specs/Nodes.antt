-- All nodes of a cluster, and all messages that they ever sent.
use Rattle.std.specs.Prelude.{List, map}
use Rattle.txn_types.specs.declared.message.Envelope.{Envelope}
use Rattle.txn_model.specs.Commits.{Journals, commits}
use Rattle.txn_semantics.specs.declared.commits.Entry.{Entry}
use Rattle.shard_core.specs.NodeStep.{NodeState}
use Rattle.router_state.specs.State.{RouterState}

pub record Nodes : Type 0 where
  pub shards : List NodeState
  pub routers : List RouterState
  pub sent : List Envelope

-- the records of the shards' journals; of a shard whose append failed those before it, until it
-- starts again
abbrev pub journals_of : Nodes → Journals
journals_of nodes = map (λ n. n.records) nodes.shards

-- the list of commits, as the journals are
abbrev pub commits_of : Nodes → List Entry
commits_of nodes = commits (journals_of nodes)
