use Rattle.world_laws.proofs.Tags.{plans_step}
use Rattle.world_laws.proofs.laws.what_is_coordinated_was_named.Goals as goal

pub returns : goal.returns
returns c = plans_step
