-- What is right of a cluster of one shard, beside what `Right` says of commits.
use Rattle.std.specs.Prelude.{◌≡◌, ◌<◌, ℕ, List, [], ◌∷◌, All, Some}
use Rattle.txn_types.specs.declared.message.Envelope.{Envelope}
use Rattle.chunk_map.specs.Map.{Map}
use Rattle.part_laws.specs.Each.{Each}
use Rattle.part_laws.specs.Now.{AreRight}
use Rattle.part_laws.specs.Sound.{Served, EntryRight}
use Rattle.shard_core.specs.NodeStep.{NodeState, started}
use Rattle.cluster_core.specs.Nodes.{Nodes, commits_of}
use Rattle.cluster_core.specs.Trace.{IsFresh}
use Rattle.serving_laws.specs.Telling.{IsToldBy}
use Rattle.one_shard_laws.specs.Lasting.{AllAsked, InOrder, WasCommitted}

-- one shard, on a new disk
pub record StartsAlone (chunks : Map) (nodes : Nodes) : Type 0 where
  pub fresh : IsFresh chunks nodes
  pub node : NodeState
  pub faults : ℕ
  pub shards : nodes.shards ≡ node ∷ []
  pub starts : started 0 [] faults ≡ Some node

-- The statements that were served, the newest first: each in a boot of the shard, and each was
-- sent; of one transaction in one boot their places rise, and they read at one moment; each was
-- told what it means over the commits that there are now, under what its transaction wrote before
-- it. Each commit is above what it read at, and holds documents under their own ids; it was asked
-- for, and holds what the statements of its transaction wrote in that boot. And each Answer that
-- was sent tells of one of them, of the boot that it names.
pub record ServedRight (nodes : Nodes) : Type 0 where
  pub served : List Served
  pub lives : Each (λ (x : Served). 0 < x.life) served
  pub asked : AllAsked nodes.sent served
  pub rises : InOrder served
  pub reads : AreRight (commits_of nodes) served
  pub known : Each EntryRight (commits_of nodes)
  pub whole : Each (WasCommitted nodes.sent served) (commits_of nodes)
  pub told : All (λ (e : Envelope). IsToldBy served e.msg) nodes.sent
