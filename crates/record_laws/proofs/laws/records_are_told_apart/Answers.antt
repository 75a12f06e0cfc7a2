use Rattle.record_laws.proofs.Records.{told_apart}
use Rattle.record_laws.proofs.laws.records_are_told_apart.Goals as goal

pub returns : goal.returns
returns c = told_apart
