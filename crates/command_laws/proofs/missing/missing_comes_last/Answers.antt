use Rattle.command_laws.proofs.Lacks.{missing_is_last}
use Rattle.command_laws.proofs.missing.missing_comes_last.Goals as goal

pub returns : goal.returns
returns c = missing_is_last
