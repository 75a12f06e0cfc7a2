use Rattle.decision_laws.proofs.Lost.{lost_never}
use Rattle.decision_laws.proofs.laws.what_is_lost_is_never_committed.Goals as goal

pub returns : goal.returns
returns c chunks start run trace now is h k nodes tag there lost =
    lost_never chunks start run trace now is h k nodes tag there lost
