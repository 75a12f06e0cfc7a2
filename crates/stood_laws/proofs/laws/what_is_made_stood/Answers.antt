use Rattle.stood_laws.proofs.All.{all_stood}
use Rattle.stood_laws.proofs.laws.what_is_made_stood.Goals as goal

pub returns : goal.returns
returns c chunks start run trace now map alone is within shard tag m earlier why made new shown =
    all_stood chunks start run trace now map alone is within shard tag m earlier why made new shown
