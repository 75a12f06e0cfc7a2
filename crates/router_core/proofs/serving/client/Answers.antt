use Rattle.router_plan.specs.Plans.{state_of, move_of}
use Rattle.router_core.proofs.Taking.{taken_so, closed_so}
use Rattle.router_core.proofs.serving.client.Goals as goal

pub returns-clause-moved : goal.returns-clause-moved
returns-clause-moved c =
    taken_so (state_of c.args.base.now c.args.chunks.now c.args.sessions.now) c.args.conn
    c.args.bytes.now c.is_waiting.result c.wants_reply.result c.asked-asked.result
    (move_of c.in_ok-plan.field-0.plan c.args.chunks.now c.args.sessions.now)
    (move_of c.unless_silent.result c.args.chunks.now c.args.sessions.now)
    c.is_waiting.ensures c.if-is_waiting.false c.asked-asked.ensures c.in_ok-plan.ensures.memory
    c.in_ok-plan.ensures.moved c.wants_reply.ensures c.unless_silent.ensures.moved

pub returns-clause-closed : goal.returns-clause-closed
returns-clause-closed c =
    closed_so (state_of c.args.base.now c.args.chunks.now c.args.sessions.now) c.args.conn
    c.args.bytes.now c.is_waiting.result c.asked-asked.result c.in_ok-plan.field-0.closed
    c.is_waiting.ensures c.if-is_waiting.false c.asked-asked.ensures c.in_ok-plan.ensures.memory
    c.in_ok-plan.ensures.closed
