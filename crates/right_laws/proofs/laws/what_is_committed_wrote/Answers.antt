use Rattle.right_laws.proofs.Tellings.Writing.{committed_wrote}
use Rattle.right_laws.proofs.laws.what_is_committed_wrote.Goals as goal

pub returns : goal.returns
returns c chunks start run trace now is h k tag began_so there =
    committed_wrote chunks start run trace now is h k tag began_so there
