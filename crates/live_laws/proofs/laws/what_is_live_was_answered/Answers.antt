use Rattle.live_laws.proofs.Standing.{live_step, live_run, live_fresh, live_part}
use Rattle.live_laws.proofs.laws.what_is_live_was_answered.Goals as goal

pub returns-clause-step : goal.returns-clause-step
returns-clause-step c = live_step

pub returns-clause-run : goal.returns-clause-run
returns-clause-run c = live_run

pub returns-clause-fresh : goal.returns-clause-fresh
returns-clause-fresh c = live_fresh

pub returns-clause-part : goal.returns-clause-part
returns-clause-part c = live_part
