use Rattle.std.proofs.Common.{◌∙◌}
use Rattle.shard_core.proofs.Restoring.{restored_is}
use Rattle.shard_core.proofs.shard.Shard.deliver_own_commit.Goals as goal

pub returns-in-Err-Memory-clause-err : goal.returns-in-Err-Memory-clause-err
returns-in-Err-Memory-clause-err c =
    c.restore.ensures ∙ restored_is c.args.self.now c.on_commit.new.self c.args.wall
    c.args.envelope.now c.in_ok-kept.kept c.in_ok-kept.ensures (c.in-Err-Memory.ensures.err
    ∙ c.arrive.ensures.arrived)
