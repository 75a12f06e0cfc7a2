use Rattle.txn_semantics.proofs.Joins.{at-under}
use Rattle.txn_semantics.proofs.laws.own_writes_split.Goals as goal

pub returns : goal.returns
returns c = at-under
