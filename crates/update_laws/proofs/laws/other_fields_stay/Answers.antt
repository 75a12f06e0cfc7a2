use Rattle.update_laws.proofs.Kept.{others_stay}
use Rattle.update_laws.proofs.laws.other_fields_stay.Goals as goal

pub returns : goal.returns
returns c = others_stay
