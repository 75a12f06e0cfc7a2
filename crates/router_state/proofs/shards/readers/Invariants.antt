use Rattle.std.proofs.Common.{◌≡◌, ◌++◌, not, drop, filter}
use Rattle.router_state.specs.Shards.{has_written}
use Rattle.router_state.proofs.shards.readers.Given as goal

abbrev pub invariant-loop-shard : goal.invariant-loop-shard
invariant-loop-shard l = l.readers ++ filter (λ part. not (has_written l.t part.0))
    (drop l.shard-index l.shard-items) ≡ filter (λ part. not (has_written l.t part.0)) l.shard-items
