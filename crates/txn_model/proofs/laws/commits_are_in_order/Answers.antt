use Rattle.txn_model.proofs.Added.{commits_sorted}
use Rattle.txn_model.proofs.laws.commits_are_in_order.Goals as goal

pub returns : goal.returns
returns c = commits_sorted
