use Rattle.fit_laws.proofs.Recorded.{records_fit}
use Rattle.fit_laws.proofs.laws.what_a_shard_records_fits.Goals as goal

pub returns : goal.returns
returns c chunks start run trace now alone is bytes on routers n s there =
    records_fit chunks start run trace now alone is bytes on routers n s there
