use Rattle.shard_core.proofs.Carrying.{step_carries}
use Rattle.shard_core.proofs.laws.a_record_carries_what_is_known.Goals as goal

pub returns : goal.returns
returns c = step_carries
