use Rattle.stood_laws.proofs.Meanings.{refusal_stood}
use Rattle.stood_laws.proofs.laws.a_refused_statement_meant_it.Goals as goal

pub returns : goal.returns
returns c chunks start run trace now map alone is within shard tag err m made new =
    refusal_stood chunks start run trace now map alone is within shard tag m err made new
