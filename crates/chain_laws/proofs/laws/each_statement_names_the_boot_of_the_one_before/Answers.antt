use Rattle.chain_laws.proofs.Concluding.{boots_of_sent}
use Rattle.chain_laws.proofs.laws.each_statement_names_the_boot_of_the_one_before.Goals as goal

pub returns : goal.returns
returns c chunks start run trace now alone is h =
    boots_of_sent chunks start run trace now alone is h
