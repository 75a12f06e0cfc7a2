use Rattle.std.proofs.Common.{refl, rules}
use Rattle.mtx.proofs.stdio.pull.Goals as goal

pub returns-in-Ok-clause-moved : goal.returns-in-Ok-clause-moved
returns-in-Ok-clause-moved g c = (_, c.in-Ok.ensures.items, refl, search rules, refl, λ _ _. tt)
