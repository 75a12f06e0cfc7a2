use Rattle.world_laws.proofs.Joint.{stands_step, stands_run, stands_fresh, new_disk}
use Rattle.world_laws.proofs.laws.each_run_keeps_what_stands.Goals as goal

pub returns-clause-step : goal.returns-clause-step
returns-clause-step c = stands_step

pub returns-clause-run : goal.returns-clause-run
returns-clause-run c = stands_run

pub returns-clause-fresh : goal.returns-clause-fresh
returns-clause-fresh c = stands_fresh

pub returns-clause-disk : goal.returns-clause-disk
returns-clause-disk c = new_disk
