use Rattle.value_order.proofs.Longs.{one_place_one_value, one_value_one_place}
use Rattle.value_order.proofs.Total.{value_total}
use Rattle.value_order.proofs.laws.values_are_in_order.Goals as goal

pub returns-clause-total : goal.returns-clause-total
returns-clause-total c = value_total

pub returns-clause-one_place : goal.returns-clause-one_place
returns-clause-one_place c = λ a b. (one_place_one_value a b, one_value_one_place a b)
