use Rattle.txn_semantics.proofs.Places.{place_total, place_exact}
use Rattle.txn_semantics.proofs.laws.places_are_in_order.Goals as goal

pub returns-clause-total : goal.returns-clause-total
returns-clause-total c = place_total

pub returns-clause-exact : goal.returns-clause-exact
returns-clause-exact c = place_exact
