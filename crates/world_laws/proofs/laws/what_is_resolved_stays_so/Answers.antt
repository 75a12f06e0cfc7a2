use Rattle.world_laws.proofs.Above.{resolved_step, grows_step}
use Rattle.world_laws.proofs.laws.what_is_resolved_stays_so.Goals as goal

pub returns-clause-step : goal.returns-clause-step
returns-clause-step c = resolved_step

pub returns-clause-grows : goal.returns-clause-grows
returns-clause-grows c = grows_step
