use Rattle.std.proofs.Common.{◌∙◌}
use Rattle.coordinator.proofs.Found.{held}
use Rattle.coordinator.proofs.coord.Coord.find.Goals as goal

pub returns : goal.returns
returns c = c.get.ensures.value ∙ held c.new.result c.args.tag c.self.inside.coordinations.entries
    c.args.self.now c.new.ensures c.self.view_is
