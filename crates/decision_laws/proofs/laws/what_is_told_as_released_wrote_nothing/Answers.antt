use Rattle.decision_laws.proofs.Released.{released_wrote_nothing}
use Rattle.decision_laws.proofs.laws.what_is_told_as_released_wrote_nothing.Goals as goal

pub returns : goal.returns
returns c chunks start run trace now is h k e o there is_o free =
    released_wrote_nothing chunks start run trace now is h k e o there is_o free
