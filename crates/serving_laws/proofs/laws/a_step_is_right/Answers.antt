use Rattle.serving_laws.proofs.Stepping.{step_serves}
use Rattle.serving_laws.proofs.laws.a_step_is_right.Goals as goal

pub returns : goal.returns
returns c = step_serves
