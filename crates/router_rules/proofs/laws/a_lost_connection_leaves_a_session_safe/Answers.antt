use Rattle.router_rules.proofs.Good.{gone_good}
use Rattle.router_rules.proofs.laws.a_lost_connection_leaves_a_session_safe.Goals as goal

pub returns : goal.returns
returns c = gone_good
