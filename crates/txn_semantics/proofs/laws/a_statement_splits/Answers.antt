use Rattle.txn_semantics.proofs.Whole.{replies_merge, writes_split, writes_joined}
use Rattle.txn_semantics.proofs.laws.a_statement_splits.Goals as goal

pub returns-clause-replies : goal.returns-clause-replies
returns-clause-replies c = replies_merge

pub returns-clause-writes : goal.returns-clause-writes
returns-clause-writes c = writes_split

pub returns-clause-join : goal.returns-clause-join
returns-clause-join c = writes_joined
