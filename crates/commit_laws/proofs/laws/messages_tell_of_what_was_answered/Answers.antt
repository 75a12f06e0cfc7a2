use Rattle.commit_laws.proofs.Running.{all_stand}
use Rattle.commit_laws.proofs.laws.messages_tell_of_what_was_answered.Goals as goal

pub returns : goal.returns
returns c chunks start run trace now is one fresh h =
    (all_stand chunks is one start fresh run trace now h).sent
