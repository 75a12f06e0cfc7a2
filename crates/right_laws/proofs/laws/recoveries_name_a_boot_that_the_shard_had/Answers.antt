use Rattle.right_laws.proofs.Tokens.Earlier.{recovers_name_boots}
use Rattle.right_laws.proofs.laws.recoveries_name_a_boot_that_the_shard_had.Goals as goal

pub returns : goal.returns
returns c chunks start run trace now is h k given nodes at =
    recovers_name_boots chunks start run trace now is h k given nodes at
