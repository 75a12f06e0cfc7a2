-- That requests to recover transactions name boots that the shard had.
use Rattle.std.specs.Prelude.{◌≡◌, ◌<◌, ◌≤◌, ℕ, Some, slice_get}
use Rattle.txn_types.specs.declared.message.Recover.{Recover}
use Rattle.shard_core.specs.NodeStep.{NodeState}
use Rattle.cluster_core.specs.Nodes.{Nodes}
use Rattle.decision_laws.specs.Recovering.{WasSought}

-- none of those that were sent names a boot above the shard's, or 0, which is none
abbrev pub RecoversNameBoots : Nodes → Type 0
RecoversNameBoots nodes =
    (x : Recover) → WasSought nodes.sent x → (n : ℕ) (node : NodeState)
    → slice_get nodes.shards n ≡ Some node
    → (0 < x.boot) × (x.boot ≤ node.core.part.boot)
