use Rattle.std.proofs.Common.{◌≡◌, drop, fold}
use Rattle.router_state.specs.Shards.{with_shard}
use Rattle.router_state.proofs.shards.with_shards.Given as goal

abbrev pub invariant-loop-shard : goal.invariant-loop-shard
invariant-loop-shard l =
    fold with_shard l.all (drop l.shard-index l.shards) ≡ fold with_shard l.parts l.shards
