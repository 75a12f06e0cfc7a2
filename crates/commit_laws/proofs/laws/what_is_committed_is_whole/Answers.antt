use Rattle.commit_laws.proofs.Whole.{all_whole}
use Rattle.commit_laws.proofs.laws.what_is_committed_is_whole.Goals as goal

pub returns : goal.returns
returns c chunks start run trace now is h k = all_whole chunks start run trace now is h k
