use Rattle.shard_core.proofs.Handing.{idle_steps}
use Rattle.shard_core.proofs.shard.Shard.run.Goals as goal

pub returns-in-Client-clause-step : goal.returns-in-Client-clause-step
returns-in-Client-clause-step c =
    idle_steps c.args.self.now c.args.event.now _ c.pass.new.self c.pass.new.out c.pass.result
    c.requires c.in-Client.is tt c.pass.ensures.core c.pass.ensures.out c.pass.ensures.step

pub returns-in-Gone-clause-step : goal.returns-in-Gone-clause-step
returns-in-Gone-clause-step c = idle_steps c.args.self.now c.args.event.now _
    c.pass-in-Gone.new.self c.pass-in-Gone.new.out c.pass-in-Gone.result c.requires c.in-Gone.is tt
    c.pass-in-Gone.ensures.core c.pass-in-Gone.ensures.out c.pass-in-Gone.ensures.step

pub returns-in-Moment-clause-step : goal.returns-in-Moment-clause-step
returns-in-Moment-clause-step c =
    idle_steps c.args.self.now c.args.event.now _ c.pass-in-Moment.new.self c.pass-in-Moment.new.out
    c.pass-in-Moment.result c.requires c.in-Moment.is tt c.pass-in-Moment.ensures.core
    c.pass-in-Moment.ensures.out c.pass-in-Moment.ensures.step
