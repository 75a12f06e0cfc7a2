use Rattle.abort_laws.proofs.Whole.{all_stood}
use Rattle.abort_laws.proofs.laws.a_wish_stood.Goals as goal

pub returns : goal.returns
returns c chunks start run trace now fresh disks names h within shard tag why m made new =
    all_stood chunks start run trace now fresh disks names h within shard tag why m made new
