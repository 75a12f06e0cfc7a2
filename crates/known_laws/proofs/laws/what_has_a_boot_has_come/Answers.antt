use Rattle.known_laws.proofs.Standing.{known_step, known_run, known_fresh, known_part, known_whole}
use Rattle.known_laws.proofs.laws.what_has_a_boot_has_come.Goals as goal

pub returns-clause-step : goal.returns-clause-step
returns-clause-step c = known_step

pub returns-clause-run : goal.returns-clause-run
returns-clause-run c = known_run

pub returns-clause-fresh : goal.returns-clause-fresh
returns-clause-fresh c = known_fresh

pub returns-clause-part : goal.returns-clause-part
returns-clause-part c = known_part

pub returns-clause-whole : goal.returns-clause-whole
returns-clause-whole c = known_whole
