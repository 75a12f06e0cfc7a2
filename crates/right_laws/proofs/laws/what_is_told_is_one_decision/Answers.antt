use Rattle.right_laws.proofs.Writes.Deciding.{one_decided}
use Rattle.right_laws.proofs.laws.what_is_told_is_one_decision.Goals as goal

pub returns : goal.returns
returns c chunks start run trace now is h k given =
    one_decided chunks start run trace now is h k given
