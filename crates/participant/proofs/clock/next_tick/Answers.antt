use Rattle.participant.proofs.Commits.{no_tick}
use Rattle.participant.proofs.clock.next_tick.Goals as goal

pub returns-in-Err-clause-time : goal.returns-in-Err-clause-time
returns-in-Err-clause-time c = no_tick c.args.clock.now.last c.args.wall c.args.clock.now.ceiling
    c.in-Err._end c.in-Err.ensures.end c.in-Err.ensures.ceiling c.requires
