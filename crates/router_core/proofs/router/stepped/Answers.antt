use Rattle.router_plan.specs.Plans.{state_of, move_of}
use Rattle.router_core.proofs.Stepping.{planned_fits}
use Rattle.router_core.proofs.router.stepped.Goals as goal

pub turn_of-requires : goal.turn_of-requires
turn_of-requires c =
    planned_fits (state_of c.args.base.now c.args.chunks.now c.args.sessions.now)
    (state_of c.walled-later.result c.args.chunks.now c.args.sessions.now) c.args.event.now.wall
    c.args.event.now.what
    (move_of c.in_ok-plan.field-0.plan c.args.chunks.now c.args.sessions.now) c.requires
    c.walled-later.ensures c.in_ok-plan.ensures.moved
