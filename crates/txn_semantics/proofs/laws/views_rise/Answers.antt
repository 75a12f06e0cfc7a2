use Rattle.txn_semantics.proofs.Viewing.{view_rises}
use Rattle.txn_semantics.proofs.laws.views_rise.Goals as goal

pub returns : goal.returns
returns c = view_rises
