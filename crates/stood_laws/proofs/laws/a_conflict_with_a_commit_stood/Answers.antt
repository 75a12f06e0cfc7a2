use Rattle.stood_laws.proofs.Conflicting.{conflict_stood}
use Rattle.stood_laws.proofs.laws.a_conflict_with_a_commit_stood.Goals as goal

pub returns : goal.returns
returns c chunks start run trace now alone is within shard tag id time m made new =
    conflict_stood chunks start run trace now alone is within shard tag id time m made new
