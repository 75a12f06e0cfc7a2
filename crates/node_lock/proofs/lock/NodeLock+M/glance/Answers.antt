use Rattle.std.proofs.Common.{arith}
use Rattle.node_lock.proofs.Seats.{glances}
use Rattle.node_lock.proofs.lock.NodeLock+M.glance.Goals as goal

pub load-requires : goal.load-requires
load-requires g c = (
  cc,
  omega (arith, c.self.invariant.0),
  glances g.M.Machine.takes _ _ _ _ c.args.seat.now.me c.requires.idle.0 c.requires.idle.1,
)
