use Rattle.std.proofs.Common.{arith}
use Rattle.node_lock.proofs.Tickets.{looks}
use Rattle.node_lock.proofs.lock.NodeLock+M.look.Goals as goal

pub load-requires : goal.load-requires
load-requires g c = (
  cc,
  omega (arith, c.self.invariant.0),
  looks g.M.Machine.takes _ _ _ _ c.args.seat.now.me c.requires.waits.0 c.requires.waits.1,
)
