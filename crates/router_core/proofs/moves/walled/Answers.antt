use Rattle.router_core.proofs.moves.walled.Goals as goal

pub returns : goal.returns
returns c = c.walled.ensures c.args.chunks.now c.args.sessions.now
