use Rattle.std.proofs.Common.{◌≡◌, ◌++◌, not, drop, filter}
use Rattle.router_state.specs.Shards.{has_written}
use Rattle.router_txn.proofs.statements.new_among.Given as goal

abbrev pub invariant-loop-shard : goal.invariant-loop-shard
invariant-loop-shard l = l.new ++ filter (λ shard. not (has_written l.t shard)) (drop l.shard-index
    l.shards) ≡ filter (λ shard. not (has_written l.t shard)) l.shards
