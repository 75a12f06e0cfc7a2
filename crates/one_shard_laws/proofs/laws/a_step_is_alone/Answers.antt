use Rattle.one_shard_laws.specs.Lasting.{WasNamed}
use Rattle.one_shard_laws.proofs.Stepping.{step_alone}
use Rattle.one_shard_laws.proofs.laws.a_step_is_alone.Goals as goal

pub returns : goal.returns
returns c = λ sent. step_alone (WasNamed sent)
