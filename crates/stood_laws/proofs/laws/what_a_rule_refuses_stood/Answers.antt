use Rattle.stood_laws.proofs.Ruled.{ruled_stood}
use Rattle.stood_laws.proofs.laws.what_a_rule_refuses_stood.Goals as goal

pub returns : goal.returns
returns c chunks start run trace now alone is within shard tag why m made new ruled =
    ruled_stood chunks start run trace now alone is within shard tag why m made new ruled
