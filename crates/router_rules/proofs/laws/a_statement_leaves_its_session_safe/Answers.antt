use Rattle.router_rules.proofs.Good.{asks_good}
use Rattle.router_rules.proofs.laws.a_statement_leaves_its_session_safe.Goals as goal

pub returns : goal.returns
returns c = asks_good
