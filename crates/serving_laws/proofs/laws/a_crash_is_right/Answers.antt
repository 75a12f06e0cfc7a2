use Rattle.serving_laws.proofs.Crashing.{crash_serves}
use Rattle.serving_laws.proofs.laws.a_crash_is_right.Goals as goal

pub returns : goal.returns
returns c = crash_serves
