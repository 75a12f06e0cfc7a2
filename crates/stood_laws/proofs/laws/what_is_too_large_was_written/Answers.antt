use Rattle.stood_laws.proofs.Meanings.{large_stood}
use Rattle.stood_laws.proofs.laws.what_is_too_large_was_written.Goals as goal

pub returns : goal.returns
returns c chunks start run trace now map alone is within shard tag bytes m made new =
    large_stood chunks start run trace now map alone is within shard tag m bytes made new
