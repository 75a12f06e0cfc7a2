use Rattle.txn_semantics.proofs.Routing.{routed_splits}
use Rattle.txn_semantics.proofs.laws.what_is_routed_splits.Goals as goal

pub returns : goal.returns
returns c = routed_splits
