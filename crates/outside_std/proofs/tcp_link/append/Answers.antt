use Rattle.std.proofs.Common.{refl, rules}
use Rattle.outside_std.proofs.tcp_link.append.Goals as goal

pub returns-in-Ok-clause-bytes : goal.returns-in-Ok-clause-bytes
returns-in-Ok-clause-bytes c =
    (_, c.in-Ok.ensures.items, search rules, search rules, refl, λ _ _. tt)
