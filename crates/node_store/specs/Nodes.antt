-- A shard's node over a log of records, as contracts see it.
use Rattle.std.specs.Prelude.{◌≡◌, Bool, false, None}
use Rattle.shard_core.specs.Carrying.{IsBounded}
use Rattle.shard_core.specs.NodeStep.{NodeState}
use Rattle.shard_core.specs.State.{ShardState}

pub record ShardOn (L : Type 0) : Type 0 where
  pub node : NodeState
  pub log : L

-- live transactions are within their volume, and a shard that isn't stopped can append
pub record IsNode (core : ShardState) (closed : Bool) : Type 0 where
  pub bounded : IsBounded core.part
  pub running : core.stopped ≡ None → closed ≡ false
