use Rattle.txn_types.proofs.Orders.{tag_total, tag_exact}
use Rattle.txn_types.proofs.laws.tags_are_in_order.Goals as goal

pub returns-clause-total : goal.returns-clause-total
returns-clause-total c = tag_total

pub returns-clause-exact : goal.returns-clause-exact
returns-clause-exact c = tag_exact
