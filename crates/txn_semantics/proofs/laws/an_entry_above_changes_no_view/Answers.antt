use Rattle.txn_semantics.proofs.Viewing.{entry_above_leaves}
use Rattle.txn_semantics.proofs.laws.an_entry_above_changes_no_view.Goals as goal

pub returns : goal.returns
returns c = entry_above_leaves
