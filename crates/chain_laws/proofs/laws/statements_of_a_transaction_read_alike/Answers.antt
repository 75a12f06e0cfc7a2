use Rattle.chain_laws.proofs.Concluding.{alike, left_alone}
use Rattle.chain_laws.proofs.laws.statements_of_a_transaction_read_alike.Goals as goal

pub returns-clause-alike : goal.returns-clause-alike
returns-clause-alike c chunks start run trace now alone is h =
    alike chunks start run trace now alone is h

pub returns-clause-left : goal.returns-clause-left
returns-clause-left c chunks start run trace now alone is h =
    left_alone chunks start run trace now alone is h
