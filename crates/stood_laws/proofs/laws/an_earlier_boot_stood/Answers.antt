use Rattle.stood_laws.proofs.Earlier.{unavailable_stood}
use Rattle.stood_laws.proofs.laws.an_earlier_boot_stood.Goals as goal

pub returns : goal.returns
returns c chunks start run trace now map alone is within shard tag carried have m made new earlier =
    unavailable_stood chunks start run trace now map alone is within shard tag carried have m made
    new earlier
