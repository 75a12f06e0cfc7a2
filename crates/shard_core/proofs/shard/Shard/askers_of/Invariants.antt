use Rattle.std.proofs.Common.{◌≡◌, ◌++◌, filter, drop}
use Rattle.shard_core.specs.Senders.{waits}
use Rattle.shard_core.proofs.shard.Shard.askers_of.Given as goal

abbrev pub invariant-loop-router : goal.invariant-loop-router
invariant-loop-router l = l.askers.items ++ filter (waits l.self.coord l.tag) (drop l.router-index
    l.routers) ≡ filter (waits l.self.coord l.tag) l.routers
