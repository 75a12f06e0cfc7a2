use Rattle.router_rules.proofs.Good.{client_aborts_good}
use Rattle.router_rules.proofs.laws.an_abort_leaves_its_session_safe.Goals as goal

pub returns : goal.returns
returns c = client_aborts_good
