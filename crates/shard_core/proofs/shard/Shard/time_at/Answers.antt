use Rattle.std.proofs.Common.{◌≡◌, ap}
use Rattle.shard_core.specs.State.{ShardState}
use Rattle.shard_core.proofs.Arriving.{arrived_last}
use Rattle.shard_core.proofs.shard.Shard.time_at.Goals as goal

pub returns : goal.returns
returns c =
    let last : c.self.inside.clock.last ≡ c.args.self.now.clock.last =
    ap (λ (s : ShardState). s.clock.last) c.self.view_is in
    rw (arrived_last c.args.self.now c.args.wall c.args.envelope.now) cc
