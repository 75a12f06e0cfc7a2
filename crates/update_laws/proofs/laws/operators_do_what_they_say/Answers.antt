use Rattle.update_laws.proofs.Kept.{set_is, unset_is, zero_int, zero_long}
use Rattle.update_laws.proofs.laws.operators_do_what_they_say.Goals as goal

pub returns-clause-set : goal.returns-clause-set
returns-clause-set c = set_is

pub returns-clause-unset : goal.returns-clause-unset
returns-clause-unset c = unset_is

pub returns-clause-zero32 : goal.returns-clause-zero32
returns-clause-zero32 c = zero_int

pub returns-clause-zero64 : goal.returns-clause-zero64
returns-clause-zero64 c = zero_long
