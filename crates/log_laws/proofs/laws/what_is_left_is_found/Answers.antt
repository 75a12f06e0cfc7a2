use Rattle.log_laws.proofs.Finding.{left_found}
use Rattle.log_laws.proofs.laws.what_is_left_is_found.Goals as goal

pub returns : goal.returns
returns c = left_found
