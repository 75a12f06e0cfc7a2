use Rattle.durable_laws.proofs.Stepping.{fault_is_backed}
use Rattle.durable_laws.proofs.laws.a_failed_append_is_durable.Goals as goal

pub returns : goal.returns
returns c = fault_is_backed
