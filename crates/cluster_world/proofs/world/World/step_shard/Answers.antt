use Rattle.cluster_world.proofs.Swapping.{shard_took}
use Rattle.cluster_world.proofs.world.World.step_shard.Goals as goal

pub returns-clause-took : goal.returns-clause-took
returns-clause-took g c =
    shard_took c.args.self.now c.take_shard.new.self c.note.new.self c.args.shard
    c.in_ok-answer.faults c.args.event c.in_ok-answer.answer
    c.in_ok-answer.ensures.took c.requires.comes c.check_times.ensures.wall
    c.check_times.ensures.times c.in_ok-note.ensures.noted
