use Rattle.coordinator.proofs.Deciding.{each_is_at_most, one_is_at}
use Rattle.coordinator.proofs.laws.greatest_is_greatest.Goals as goal

pub returns-clause-most : goal.returns-clause-most
returns-clause-most c = each_is_at_most

pub returns-clause-one : goal.returns-clause-one
returns-clause-one c = one_is_at
