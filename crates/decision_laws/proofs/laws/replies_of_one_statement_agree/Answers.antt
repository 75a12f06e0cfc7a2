use Rattle.decision_laws.proofs.Flagged.{replies_agree}
use Rattle.decision_laws.proofs.laws.replies_of_one_statement_agree.Goals as goal

pub returns : goal.returns
returns c chunks start run trace now is h k = replies_agree chunks start run trace now is h k
