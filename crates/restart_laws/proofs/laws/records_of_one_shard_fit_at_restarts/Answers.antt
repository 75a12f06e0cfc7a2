use Rattle.restart_laws.proofs.Fitting.{restarts_fit}
use Rattle.restart_laws.proofs.laws.records_of_one_shard_fit_at_restarts.Goals as goal

pub returns : goal.returns
returns g c = restarts_fit _
