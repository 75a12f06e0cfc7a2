use Rattle.serving_laws.proofs.Starting.{start_serves, first_serves}
use Rattle.serving_laws.proofs.laws.a_start_is_right.Goals as goal

pub returns-clause-again : goal.returns-clause-again
returns-clause-again c = start_serves

pub returns-clause-first : goal.returns-clause-first
returns-clause-first c = first_serves
