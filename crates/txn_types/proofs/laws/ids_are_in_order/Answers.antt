use Rattle.txn_types.proofs.Orders.{id_total, id_exact}
use Rattle.txn_types.proofs.laws.ids_are_in_order.Goals as goal

pub returns-clause-total : goal.returns-clause-total
returns-clause-total c = id_total

pub returns-clause-exact : goal.returns-clause-exact
returns-clause-exact c = id_exact
