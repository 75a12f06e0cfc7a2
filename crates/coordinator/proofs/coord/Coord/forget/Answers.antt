use Rattle.std.proofs.Common.{◌∙◌}
use Rattle.coordinator.proofs.Found.{forgotten}
use Rattle.coordinator.proofs.coord.Coord.forget.Goals as goal

pub returns : goal.returns
returns c =
    let entries = c.self.inside.coordinations.entries in
    c.remove.ensures.entries ∙ forgotten c.new.result c.args.tag entries c.args.self.now
    c.new.ensures c.self.view_is c.len-count.ensures.ordered
