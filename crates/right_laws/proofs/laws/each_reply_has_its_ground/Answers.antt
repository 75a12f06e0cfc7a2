use Rattle.right_laws.proofs.Hands.Running.{all_came}
use Rattle.right_laws.proofs.laws.each_reply_has_its_ground.Goals as goal

pub returns : goal.returns
returns c = all_came
