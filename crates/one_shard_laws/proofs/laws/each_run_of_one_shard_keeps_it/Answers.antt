use Rattle.one_shard_laws.proofs.Joint.{one_shard_step, runs_alone}
use Rattle.one_shard_laws.proofs.laws.each_run_of_one_shard_keeps_it.Goals as goal

pub returns-clause-step : goal.returns-clause-step
returns-clause-step c = λ old ran new h s o. one_shard_step old s o ran new h

pub returns-clause-run : goal.returns-clause-run
returns-clause-run c = runs_alone
