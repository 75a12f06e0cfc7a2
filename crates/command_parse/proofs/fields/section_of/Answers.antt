use Rattle.std.proofs.Common.{ap}
use Rattle.crud_parse.specs.Operators.{beside}
use Rattle.command_parse.proofs.fields.section_of.Goals as goal

pub loop-section-init : goal.loop-section-init
loop-section-init c = ap (beside c.args.name.now) c.as_slice-section-items.ensures
