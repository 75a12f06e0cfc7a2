use Rattle.told_laws.proofs.OneShard.{part_is_whole, one_merges}
use Rattle.told_laws.proofs.laws.one_shard_has_all.Goals as goal

pub returns-clause-part : goal.returns-clause-part
returns-clause-part c = part_is_whole

pub returns-clause-reply : goal.returns-clause-reply
returns-clause-reply c = one_merges
