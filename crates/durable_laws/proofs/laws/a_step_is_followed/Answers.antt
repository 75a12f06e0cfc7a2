use Rattle.durable_laws.proofs.Following.{step_follows}
use Rattle.durable_laws.proofs.laws.a_step_is_followed.Goals as goal

pub returns : goal.returns
returns c = step_follows c.a_record_can_follow.ensures.step
