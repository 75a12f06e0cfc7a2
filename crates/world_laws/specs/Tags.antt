-- What stands beside the sixth part of the joint invariant: what a shard coordinates, and what its
-- records begin to coordinate, was named by a message.
use Rattle.std.specs.Prelude.{All, Contains}
use Rattle.journal_rec.specs.declared.record.Rec.{Rec}
use Rattle.journal_rec.specs.declared.record.Rec.TheVariants as rec
use Rattle.shard_core.specs.NodeStep.{NodeState}
use Rattle.txn_types.specs.Letters.{Named}
use Rattle.cluster_core.specs.Nodes.{Nodes}
use Rattle.cluster_core.specs.Parts.{names_of}
use Rattle.shard_core.specs.Effect.{AllPlans}
use Rattle.world_laws.specs.Clocks.{EachShard}

abbrev pub BeginsNamed : (Named → Type 0) → Rec → Type 0
BeginsNamed P (rec.CoordStart tag lsid number parts) =
    P (record { tag = tag; lsid = lsid; number = number })
BeginsNamed P other = Unit {0}

pub record PlansNamed (P : Named → Type 0) (n : NodeState) : Type 0 where
  pub plans : AllPlans P n.core.coord
  pub records : All (BeginsNamed P) n.records
  pub hand : All (BeginsNamed P) n.hand

abbrev pub AllPlansNamed : Nodes → Type 0
AllPlansNamed nodes = EachShard nodes (λ number n. PlansNamed (Contains (names_of nodes)) n)
