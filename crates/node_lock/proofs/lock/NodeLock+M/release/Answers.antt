use Rattle.std.proofs.Common.{arith}
use Rattle.node_lock.proofs.Tickets.{releases}
use Rattle.node_lock.proofs.lock.NodeLock+M.release.Goals as goal

pub fetch_add-requires : goal.fetch_add-requires
fetch_add-requires g c = let n = c.requires.holds in (
  cc,
  omega (arith, c.self.invariant.0),
  releases g.M.Machine.takes _ _ _ _ c.args.seat.now.me n.2 n.0 n.1 n.3 n.4 n.5,
)
