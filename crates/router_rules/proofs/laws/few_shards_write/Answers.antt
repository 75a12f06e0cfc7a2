use Rattle.router_rules.proofs.Writing.{few_wrote}
use Rattle.router_rules.proofs.laws.few_shards_write.Goals as goal

pub returns : goal.returns
returns c = few_wrote
