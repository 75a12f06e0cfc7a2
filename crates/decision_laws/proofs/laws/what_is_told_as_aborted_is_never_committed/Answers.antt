use Rattle.decision_laws.proofs.Excluding.{aborts_told}
use Rattle.decision_laws.proofs.laws.what_is_told_as_aborted_is_never_committed.Goals as goal

pub returns : goal.returns
returns c chunks start run trace now is h k agree come =
    aborts_told chunks start run trace now is h k agree come
