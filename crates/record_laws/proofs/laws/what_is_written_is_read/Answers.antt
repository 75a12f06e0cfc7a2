use Rattle.record_laws.proofs.Records.{record_again}
use Rattle.record_laws.proofs.laws.what_is_written_is_read.Goals as goal

pub returns : goal.returns
returns c = record_again
