use Rattle.lost_laws.proofs.Standing.{lost_step, lost_run, lost_fresh}
use Rattle.lost_laws.proofs.laws.what_is_unavailable_names_two_boots.Goals as goal

pub returns-clause-step : goal.returns-clause-step
returns-clause-step c = lost_step

pub returns-clause-run : goal.returns-clause-run
returns-clause-run c = lost_run

pub returns-clause-fresh : goal.returns-clause-fresh
returns-clause-fresh c = lost_fresh
