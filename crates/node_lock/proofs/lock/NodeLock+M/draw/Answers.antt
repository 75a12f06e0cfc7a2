use Rattle.std.proofs.Common.{arith}
use Rattle.node_lock.proofs.Tickets.{draws}
use Rattle.node_lock.proofs.lock.NodeLock+M.draw.Goals as goal

pub fetch_add-requires : goal.fetch_add-requires
fetch_add-requires g c = (
  cc,
  omega (arith, c.self.invariant.0),
  draws g.M.Machine.takes _ _ _ _ c.args.seat.now.me c.requires.idle.0 c.requires.idle.1,
)
