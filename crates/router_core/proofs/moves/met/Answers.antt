use Rattle.router_core.proofs.moves.met.Goals as goal

pub returns : goal.returns
returns c = c.met.ensures c.args.chunks.now c.args.sessions.now
