use Rattle.router_rules.proofs.Good.{commit_asked_good}
use Rattle.router_rules.proofs.laws.a_commit_leaves_its_session_safe.Goals as goal

pub returns : goal.returns
returns c = commit_asked_good
