use Rattle.std.proofs.Common.{◌≡◌, ℕ, List, filter, ap, sym, subst, ◌∙◌, arith, zero-add, eqb}
use Rattle.std.specs.List.{list_any}
use Rattle.std.proofs.lemmas.Bool.{le-ltb}
use Rattle.coordinator.specs.Askers.{numbers_from, routers}
use Rattle.coordinator.proofs.Waiting.{is_raised, all_raised, past}
use Rattle.coordinator.proofs.askers.Askers.contains.Goals as goal

pub returns-then-place-lt8-clause-asker : goal.returns-then-place-lt8-clause-asker
returns-then-place-lt8-clause-asker c =
    let flags = c.self.inside.waits in
    sym (is_raised 0 c.from-place.result flags)
    ∙ ap (λ (n : ℕ). list_any (eqb n) (numbers_from 0 flags))
    (zero-add c.from-place.result ∙ c.from-place.ensures)
    ∙ ap (list_any (eqb c.args.router)) c.self.view_is

pub returns-then-place-lt8-clause-all : goal.returns-then-place-lt8-clause-all
returns-then-place-lt8-clause-all c =
    subst (λ (s : List ℕ). s ≡ filter (λ r. list_any (eqb r) s) routers) c.self.view_is
    (all_raised c.self.inside.waits c.self.told)

pub returns-else-place-lt8-clause-asker : goal.returns-else-place-lt8-clause-asker
returns-else-place-lt8-clause-asker c =
    let flags = c.self.inside.waits in
    le-ltb c.from-place.result 8 c.if-place-lt8.false
    ∙ sym (past flags c.from-place.result (omega (arith, c.self.told, c.if-place-lt8.false)))
    ∙ sym (is_raised 0 c.from-place.result flags)
    ∙ ap (λ (n : ℕ). list_any (eqb n) (numbers_from 0 flags))
    (zero-add c.from-place.result ∙ c.from-place.ensures)
    ∙ ap (list_any (eqb c.args.router)) c.self.view_is

pub returns-else-place-lt8-clause-all : goal.returns-else-place-lt8-clause-all
returns-else-place-lt8-clause-all c =
    subst (λ (s : List ℕ). s ≡ filter (λ r. list_any (eqb r) s) routers) c.self.view_is
    (all_raised c.self.inside.waits c.self.told)
