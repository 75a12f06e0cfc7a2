-- What a shard has of its live transactions is what their newest statements there were answered.
use Rattle.cluster_core.specs.Nodes.{Nodes}
use Rattle.cluster_core.specs.Parts.{LiveAsAnswered}
use Rattle.world_laws.specs.Clocks.{EachShard}

abbrev pub LiveStands : Nodes → Type 0
LiveStands nodes = EachShard nodes (λ number n. LiveAsAnswered nodes n)
