use Rattle.txn_model.proofs.Added.{commits_more}
use Rattle.txn_model.proofs.laws.a_record_puts_its_commit_in.Goals as goal

pub returns : goal.returns
returns c = commits_more
