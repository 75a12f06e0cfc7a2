use Rattle.router_core.proofs.Stepping.{step_holds}
use Rattle.router_core.proofs.router.Router.step.Goals as goal

pub invariant_of-self-2 : goal.invariant_of-self-2
invariant_of-self-2 c =
    step_holds c.self.inside.base c.in_ok-base.field-0.base c.self.inside.chunks
    c.in_ok-base.field-0.change c.self.inside.sessions c.as_slice.result.now c.make.new.sessions
    c.args.event.now
    c.self.invariant c.as_slice.ensures c.in_ok-make.ensures.ok c.in_ok-base.ensures.state
