use Rattle.decision_laws.proofs.OneBoot.{one_boot}
use Rattle.decision_laws.proofs.laws.requests_to_commit_name_one_boot.Goals as goal

pub returns : goal.returns
returns c chunks start run trace now is h k = one_boot chunks start run trace now is h k
