use Rattle.std.proofs.Common.{ap, ◌∙◌}
use Rattle.router_state.specs.State.{RouterState}
use Rattle.router_store.proofs.Following.{boots_at, boots_more}
use Rattle.router_store.proofs.router_node.RouterNode.over.Goals as goal

pub invariant_of-result : goal.invariant_of-result
invariant_of-result g c = (
  boots_at (g.L.RecordLog.kept c.boot.new.log) c.in-Ok.boot c.of.result.boot
      (ap (λ (r : RouterState). r.boot) c.of.ensures)
      (boots_more (g.L.RecordLog.kept c.args.log) (g.L.RecordLog.kept c.boot.new.log) c.in-Ok.boot
      c.in-Ok.ensures.follow c.in-Ok.ensures.boot.0 c.in-Ok.ensures.boot.1
      c.in-Ok.ensures.records),
  c.in-Ok.ensures.lost ∙ c.requires.whole,
)
