use Rattle.durable_laws.proofs.Stepping.{step_is_backed, step_is_written}
use Rattle.durable_laws.proofs.laws.a_step_is_durable.Goals as goal

pub returns-clause-backed : goal.returns-clause-backed
returns-clause-backed c = step_is_backed

pub returns-clause-written : goal.returns-clause-written
returns-clause-written c = step_is_written
