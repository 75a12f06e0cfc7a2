use Rattle.world_laws.proofs.NodeRecords.{records_kept}
use Rattle.world_laws.proofs.laws.what_is_told_is_recorded.Goals as goal

pub returns-clause-step : goal.returns-clause-step
returns-clause-step c = records_kept

pub returns-clause-part : goal.returns-clause-part
returns-clause-part c = λ nodes s. s.sent
