use Rattle.txn_semantics.proofs.Unmet.{unmet_leaves}
use Rattle.txn_semantics.proofs.laws.a_row_that_cant_match_changes_nothing.Goals as goal

pub returns : goal.returns
returns c = unmet_leaves
