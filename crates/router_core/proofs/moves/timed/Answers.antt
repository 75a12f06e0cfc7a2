use Rattle.router_core.proofs.moves.timed.Goals as goal

pub returns : goal.returns
returns c = c.timed.ensures c.args.chunks.now c.args.sessions.now
