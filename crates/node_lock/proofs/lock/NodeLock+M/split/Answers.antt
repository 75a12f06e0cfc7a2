use Rattle.std.proofs.Common.{◌<◌, arith, sym, ap, subst, ◌∙◌}
use Rattle.node_lock.proofs.Seats.{splits}
use Rattle.node_lock.proofs.lock.NodeLock+M.split.Goals as goal

pub split_seat-seat-requires : goal.split_seat-seat-requires
split_seat-seat-requires g c = (
  ap (λ p. p.table) c.pass.view_is ∙ (c.requires.table ∙ ap (λ l. l.table) (sym c.self.view_is)),
  omega (arith, c.self.invariant.0),
  splits g.M.Machine.takes _ _ _ c.pass.inside.seat.me.0 c.pass.invariant.0.0
      (subst (λ p. 1 < p.knows.shares) (sym c.pass.view_is) c.requires.shares),
)
