use Rattle.router_rules.proofs.Good.{ended_good}
use Rattle.router_rules.proofs.laws.an_outcome_leaves_a_session_safe.Goals as goal

pub returns : goal.returns
returns c = ended_good
