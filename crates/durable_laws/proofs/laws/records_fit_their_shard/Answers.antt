use Rattle.durable_laws.proofs.Fitting.{records_fit}
use Rattle.durable_laws.proofs.laws.records_fit_their_shard.Goals as goal

pub returns : goal.returns
returns c = records_fit
