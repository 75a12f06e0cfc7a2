use Rattle.std.proofs.Common.{arith}
use Rattle.node_lock.proofs.Recording.{records}
use Rattle.node_lock.proofs.lock.NodeLock+M.record.Goals as goal

pub fetch_add-requires : goal.fetch_add-requires
fetch_add-requires g c = let n = c.requires.noted in (
  cc,
  omega (arith, c.self.invariant.0),
  records g.M.Machine.takes _ _ _ _ c.args.seat.now.me n.5 n.0 n.1 n.2 n.3 n.4 n.6 n.7 n.8 n.9,
)
