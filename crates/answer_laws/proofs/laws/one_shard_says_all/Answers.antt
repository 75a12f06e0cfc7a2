use Rattle.answer_laws.proofs.One.{of_one}
use Rattle.answer_laws.proofs.laws.one_shard_says_all.Goals as goal

pub returns : goal.returns
returns c = of_one
