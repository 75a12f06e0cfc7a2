use Rattle.world_laws.proofs.Clocks.{clocks_step, clocks_part}
use Rattle.world_laws.proofs.laws.clocks_stay_below_their_ceilings.Goals as goal

pub returns-clause-step : goal.returns-clause-step
returns-clause-step c = clocks_step

pub returns-clause-part : goal.returns-clause-part
returns-clause-part c = clocks_part
