use Rattle.router_rules.proofs.Good.{answered_good}
use Rattle.router_rules.proofs.laws.an_answer_leaves_a_session_safe.Goals as goal

pub returns : goal.returns
returns c = answered_good
