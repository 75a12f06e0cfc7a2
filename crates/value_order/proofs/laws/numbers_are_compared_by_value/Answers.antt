use Rattle.value_order.proofs.Numbers.{one_place, by_value}
use Rattle.value_order.proofs.laws.numbers_are_compared_by_value.Goals as goal

pub returns-clause-one_place : goal.returns-clause-one_place
returns-clause-one_place c = one_place

pub returns-clause-by_value : goal.returns-clause-by_value
returns-clause-by_value c = by_value
