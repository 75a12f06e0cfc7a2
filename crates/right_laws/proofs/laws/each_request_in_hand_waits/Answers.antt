use Rattle.right_laws.proofs.Hands.Running.{all_waiting}
use Rattle.right_laws.proofs.laws.each_request_in_hand_waits.Goals as goal

pub returns : goal.returns
returns c = all_waiting
