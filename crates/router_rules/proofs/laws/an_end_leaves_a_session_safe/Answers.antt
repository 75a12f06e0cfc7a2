use Rattle.router_rules.proofs.Good.{ends_session_good}
use Rattle.router_rules.proofs.laws.an_end_leaves_a_session_safe.Goals as goal

pub returns : goal.returns
returns c = ends_session_good
