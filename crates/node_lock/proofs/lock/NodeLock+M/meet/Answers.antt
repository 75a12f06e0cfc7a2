use Rattle.std.proofs.Common.{arith, sym, ap, ◌∙◌}
use Rattle.node_lock.proofs.Seats.{joins}
use Rattle.node_lock.proofs.lock.NodeLock+M.meet.Goals as goal

pub join_seat-requires : goal.join_seat-requires
join_seat-requires g c = (
  ap (λ p. p.table) c.pass.view_is ∙ (c.requires.0 ∙ ap (λ l. l.table) (sym c.self.view_is)),
  ap (λ p. p.table) c.note.view_is ∙ (c.requires.1 ∙ ap (λ l. l.table) (sym c.self.view_is)),
  c.note.invariant.1,
  omega (arith, c.self.invariant.0),
  joins g.M.Machine.takes _ _ _ c.pass.inside.seat.me.0 _ c.note.inside.seat.me.0
      c.pass.invariant.0.0 c.pass.invariant.0.2 c.note.invariant.0.0,
)
