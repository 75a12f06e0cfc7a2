use Rattle.right_laws.proofs.Causes.All.{all_caused}
use Rattle.right_laws.proofs.laws.each_cause_told_stood.Goals as goal

pub returns : goal.returns
returns c chunks start run trace now map alone is given =
    all_caused chunks start run trace now map alone is given
