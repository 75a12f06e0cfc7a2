use Rattle.node_lock.proofs.Making.{has_recorded, called}
use Rattle.node_lock.proofs.lock.NodeLock+M.call_from.Goals as goal

pub release-requires-clause-holds : goal.release-requires-clause-holds
release-requires-clause-holds g c = has_recorded g.M.Machine.takes c.wait_turn.new.seat.me
    c.run-answer.new.seat.me c.record-place.new.seat.me c.record-place.result c.args.event.now
    c.run-answer.result c.run-answer.ensures.ran c.record-place.ensures.recorded

pub returns-clause-called : goal.returns-clause-called
returns-clause-called g c =
    let t = c.draw-ticket.ensures.ticket in
    let s = c.wait_turn.ensures.served in
    (called g.M.Machine.takes c.args.seat.now.me c.draw-ticket.new.seat.me c.wait_turn.new.seat.me
    c.run-answer.new.seat.me c.record-place.new.seat.me c.release.new.seat.me t.0 s.0
    c.record-place.result c.args.event.now c.run-answer.result c.requires.idle.0 t.1 s.1
    c.run-answer.ensures.ran c.record-place.ensures.recorded c.release.ensures.released).0
