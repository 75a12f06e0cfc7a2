use Rattle.router_rules.proofs.Good.{seeks_good}
use Rattle.router_rules.proofs.laws.a_commit_by_a_token_leaves_its_session_safe.Goals as goal

pub returns : goal.returns
returns c = seeks_good
