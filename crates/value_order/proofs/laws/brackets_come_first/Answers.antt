use Rattle.value_order.proofs.Pairs.{apart, alike}
use Rattle.value_order.proofs.laws.brackets_come_first.Goals as goal

pub returns-clause-first : goal.returns-clause-first
returns-clause-first c = apart

pub returns-clause-alike : goal.returns-clause-alike
returns-clause-alike c = alike
