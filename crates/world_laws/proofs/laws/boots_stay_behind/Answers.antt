use Rattle.world_laws.proofs.Boots.{boots_step}
use Rattle.world_laws.proofs.laws.boots_stay_behind.Goals as goal

pub returns : goal.returns
returns c = boots_step
