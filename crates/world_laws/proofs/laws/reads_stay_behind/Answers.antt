use Rattle.world_laws.proofs.ReadTimes.{reads_step, reads_part}
use Rattle.world_laws.proofs.RouterSteps.{routers_sent}
use Rattle.world_laws.proofs.laws.reads_stay_behind.Goals as goal

pub returns-clause-step : goal.returns-clause-step
returns-clause-step c =
    λ old ran new h k s r. reads_step old ran new h (routers_sent old ran new h k) s r

pub returns-clause-part : goal.returns-clause-part
returns-clause-part c = reads_part
