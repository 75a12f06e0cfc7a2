use Rattle.abort_laws.proofs.Asked.{all_asked}
use Rattle.abort_laws.proofs.laws.a_wish_is_delivered.Goals as goal

pub returns : goal.returns
returns c chunks start run trace now fresh disks names h within shard tag why m made new =
    all_asked chunks start run trace now fresh disks names h within shard tag why m made new
