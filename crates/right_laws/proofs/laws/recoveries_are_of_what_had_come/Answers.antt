use Rattle.right_laws.proofs.Tokens.Coming.{recovers_come}
use Rattle.right_laws.proofs.laws.recoveries_are_of_what_had_come.Goals as goal

pub returns : goal.returns
returns c chunks start run trace now is h k given nodes at =
    recovers_come chunks start run trace now is h k given nodes at
