-- What stands beside the first part of the joint invariant, so that each event keeps it: a running
-- shard's clock has the ceiling that its records end with, and a stopped one's records, with or
-- without those in hand, end with a ceiling that is a time.
use Rattle.std.specs.Prelude.{◌≡◌, ◌≤◌, ◌<◌, ◌^◌, ◌++◌, ℕ, [], Some, slice_get}
use Rattle.shard_core.specs.NodeStep.{NodeState}
use Rattle.shard_core.specs.Laws.{IsClock}
use Rattle.cluster_core.specs.Nodes.{Nodes}
use Rattle.cluster_core.specs.Parts.{IsRunning, last_ceiling}

pub record ClockStands (n : NodeState) : Type 0 where
  pub wall : n.core.wall < 2 ^ 32
  pub clock : IsRunning n → IsClock n.core.clock
  pub ceiling : IsRunning n → n.core.clock.ceiling ≡ last_ceiling n.records
  pub calm : IsRunning n → n.hand ≡ []
  pub durable : last_ceiling n.records ≤ last_ceiling (n.records ++ n.hand)
  pub ends : last_ceiling (n.records ++ n.hand) < 2 ^ 64

-- a fact of each shard
abbrev pub EachShard : Nodes → (ℕ → NodeState → Type 0) → Type 0
EachShard nodes P = (number : ℕ) (n : NodeState) → slice_get nodes.shards number ≡ Some n
    → P number n

abbrev pub ClocksStand : Nodes → Type 0
ClocksStand nodes = EachShard nodes (λ number n. ClockStands n)
