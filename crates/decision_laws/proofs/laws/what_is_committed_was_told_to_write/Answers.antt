use Rattle.decision_laws.proofs.Flagged.{committed_told_write}
use Rattle.decision_laws.proofs.laws.what_is_committed_was_told_to_write.Goals as goal

pub returns : goal.returns
returns c chunks start run trace now is h k = committed_told_write chunks start run trace now is h k
