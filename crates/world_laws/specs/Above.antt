-- What is resolved at a shard stays so: what it records comes above that time, a commit that it
-- makes alone and a prepared transaction. (That of several shards is as high as its coordinator
-- decides.)
use Rattle.std.specs.Prelude.{◌≡◌, ◌<◌, ◌++◌, ℕ, List, All, None, Some, slice_get}
use Rattle.journal_rec.specs.declared.record.Rec.{Rec}
use Rattle.journal_rec.specs.declared.record.Rec.TheVariants as rec
use Rattle.shard_core.specs.NodeStep.{NodeState, resolved_at}
use Rattle.cluster_core.specs.Nodes.{Nodes}
use Rattle.cluster_core.specs.Parts.{IsRunning}
use Rattle.world_laws.specs.Clocks.{EachShard}

abbrev pub IsAbove : ℕ → Rec → Type 0
IsAbove time (rec.Commit tag lsid number read_at at writes) = time < at
IsAbove time (rec.Prepared tag lsid number boot read_at at coordinator writes) = time < at
IsAbove time other = Unit {0}

-- a running shard goes by its clock, and what one that stopped has in hand is above what was
-- resolved there
pub record ResolvedStands (n : NodeState) : Type 0 where
  pub running : IsRunning n → n.settled ≡ None
  pub hand : All (IsAbove (resolved_at n)) n.hand

abbrev pub ResolvedStand : Nodes → Type 0
ResolvedStand nodes = EachShard nodes (λ number n. ResolvedStands n)

-- the records go on, above what was resolved
pub record GrowsAbove (old new : NodeState) : Type 0 where
  pub more : List Rec
  pub records : new.records ≡ old.records ++ more
  pub above : All (IsAbove (resolved_at old)) more

abbrev pub AllGrow : Nodes → Nodes → Type 0
AllGrow old new = (number : ℕ) (before after : NodeState)
    → slice_get old.shards number ≡ Some before → slice_get new.shards number ≡ Some after
    → GrowsAbove before after
