use Rattle.std.proofs.Common.{length}
use Rattle.router_core.proofs.moves.done_in.Goals as goal

pub returns-clause-moved : goal.returns-clause-moved
returns-clause-moved c = c.done_in.ensures.moved c.args.chunks.now c.args.sessions.now

pub returns-clause-fits : goal.returns-clause-fits
returns-clause-fits c = c.done_in.ensures.fits (length c.args.sessions.now)
