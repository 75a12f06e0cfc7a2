use Rattle.durable_laws.proofs.Stepping.{step_is_shard}
use Rattle.durable_laws.proofs.laws.a_step_keeps_its_part.Goals as goal

pub returns : goal.returns
returns c = step_is_shard
