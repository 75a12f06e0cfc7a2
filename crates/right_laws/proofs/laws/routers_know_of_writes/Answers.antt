use Rattle.right_laws.proofs.Writes.Running.{all_stood}
use Rattle.right_laws.proofs.laws.routers_know_of_writes.Goals as goal

pub returns : goal.returns
returns c chunks start run trace now is h k = (all_stood chunks is start h run trace now k).knows
