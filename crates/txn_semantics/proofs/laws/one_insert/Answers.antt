use Rattle.txn_semantics.proofs.Inserting.{insert_refused, insert_done}
use Rattle.txn_semantics.proofs.laws.one_insert.Goals as goal

pub returns-clause-refused : goal.returns-clause-refused
returns-clause-refused c = insert_refused

pub returns-clause-done : goal.returns-clause-done
returns-clause-done c = insert_done
