use Rattle.decision_laws.proofs.Recorded.{commits_told}
use Rattle.decision_laws.proofs.laws.what_is_told_as_committed_is_there.Goals as goal

pub returns : goal.returns
returns c chunks start run trace now h k = commits_told chunks start run trace now h k
