use Rattle.right_laws.proofs.Tellings.Whole.{all_told}
use Rattle.right_laws.proofs.laws.each_telling_has_its_ground.Goals as goal

pub returns : goal.returns
returns c chunks start run trace now is h k = all_told chunks start run trace now is h k
