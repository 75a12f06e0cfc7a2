use Rattle.router_store.proofs.Following.{boots_at, step_boot}
use Rattle.router_store.proofs.router_node.RouterNodeMachine.take.Goals as goal

pub invariant_of-self : goal.invariant_of-self
invariant_of-self g c = (
  boots_at (g.L.RecordLog.kept c.self.inside.log) c.self.inside.router.boot c.step.new.self.boot
      (step_boot c.step.result c.self.inside.router c.step.new.self c.args.event.now
      c.step.ensures.state c.step.ensures.err) c.self.invariant.0,
  c.self.invariant.1,
)
