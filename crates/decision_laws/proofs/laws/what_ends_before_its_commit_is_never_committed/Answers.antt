use Rattle.decision_laws.proofs.Ending.{ended_never}
use Rattle.decision_laws.proofs.laws.what_ends_before_its_commit_is_never_committed.Goals as goal

pub returns : goal.returns
returns c chunks start run trace old ran new more later now is h k step further tag e =
    ended_never chunks start run trace old ran new more later now is h k step further tag e
