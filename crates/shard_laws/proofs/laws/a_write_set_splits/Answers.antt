use Rattle.shard_laws.proofs.Sets.{set_here, sets_join}
use Rattle.shard_laws.proofs.laws.a_write_set_splits.Goals as goal

pub returns-clause-here : goal.returns-clause-here
returns-clause-here c = set_here

pub returns-clause-join : goal.returns-clause-join
returns-clause-join c = sets_join
