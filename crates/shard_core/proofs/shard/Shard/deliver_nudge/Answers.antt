use Rattle.shard_core.proofs.Coming.{nudged}
use Rattle.shard_core.proofs.shard.Shard.deliver_nudge.Goals as goal

pub returns-in-Ok-clause-ok : goal.returns-in-Ok-clause-ok
returns-in-Ok-clause-ok c =
    nudged c.args.self.now c.args.wall c.args.envelope.now c.arrive.new.self c.time_at.result
    c.in-Ok.out c.sends.result c.arrive.ensures.arrived c.requires c.time_at.ensures
    c.in-Ok.ensures c.sends.ensures
