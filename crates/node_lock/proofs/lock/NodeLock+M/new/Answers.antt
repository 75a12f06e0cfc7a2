use Rattle.std.proofs.Common.{rules, ap, Some}
use Rattle.node_lock.proofs.Seats.{begins}
use Rattle.node_lock.proofs.lock.NodeLock+M.new.Goals as goal

pub new-requires : goal.new-requires
new-requires g c =
    rw (c.in_default.ensures.items, c.new-slots.ensures.items) (begins g.M.Machine.takes
    c.of.result.value c.args.shares _ (ap Some (search rules)) c.ranges.shares.fits)
