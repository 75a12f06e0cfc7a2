use Rattle.right_laws.proofs.Tokens.Agreeing.{recovers_agree}
use Rattle.right_laws.proofs.laws.tokens_name_the_boot_of_commits.Goals as goal

pub returns : goal.returns
returns c chunks start run trace now is h k given =
    recovers_agree chunks start run trace now is h k given
