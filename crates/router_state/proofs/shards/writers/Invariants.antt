use Rattle.std.proofs.Common.{◌≡◌, ◌++◌, drop, map}
use Rattle.router_state.specs.State.{boot_of}
use Rattle.router_state.proofs.shards.writers.Given as goal

abbrev pub invariant-loop-shard : goal.invariant-loop-shard
invariant-loop-shard l = l.writers ++ map (λ shard. (shard, boot_of l.t.parts shard)) (drop
    l.shard-index l.shard-items) ≡ map (λ shard. (shard, boot_of l.t.parts shard)) l.shard-items
