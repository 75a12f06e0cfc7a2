use Rattle.std.proofs.Common.{◌≡◌, sym, subst}
use Rattle.node_lock.specs.Known.{Whole}
use Rattle.node_lock.proofs.Making.{looked}
use Rattle.node_lock.proofs.lock.NodeLock+M.whole.Goals as goal

pub returns-clause-whole : goal.returns-clause-whole
returns-clause-whole g c =
    let all = subst (λ p. p.knows.shares ≡ p.knows.all) (sym c.pass.view_is) c.requires.shares in
    let seen = looked g.M.Machine.takes c.pass.inside.seat.me c.glance.new.seat.me c.glance.result
    c.pass.invariant.0.1 all c.glance.ensures.seen in
    subst (λ p. Whole g.M.Machine.takes c.glance.result p.knows c.glance.new.seat.me.0)
    c.pass.view_is seen.0
