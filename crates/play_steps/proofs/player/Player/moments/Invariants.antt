use Rattle.std.proofs.Common.{◌≡◌, []}
use Rattle.play_steps.specs.Lines.{queued, moments}
use Rattle.play_steps.proofs.Queueing.{at_shard, at_router, from_on}
use Rattle.play_steps.proofs.player.Player.moments.Given as goal

abbrev pub invariant-loop-shard : goal.invariant-loop-shard
invariant-loop-shard l = queued l.self (from_on at_shard l.shard l.fn.self.shards
    (from_on at_router 0 l.fn.self.routers [])) ≡ queued l.fn.self (moments l.fn.self)

abbrev pub invariant-loop-router : goal.invariant-loop-router
invariant-loop-router l = queued l.self (from_on at_router l.router l.fn.self.routers [])
    ≡ queued l.fn.self (moments l.fn.self)
