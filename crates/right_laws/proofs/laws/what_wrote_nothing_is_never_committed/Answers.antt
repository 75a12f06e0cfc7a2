use Rattle.right_laws.proofs.Writes.Writeless.{writeless}
use Rattle.right_laws.proofs.laws.what_wrote_nothing_is_never_committed.Goals as goal

pub returns : goal.returns
returns c chunks start run trace now is h k = writeless chunks is start h now run trace k
