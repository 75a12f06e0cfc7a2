use Rattle.std.proofs.Common.{ℤ, ap, ◌∙◌, w64}
use Rattle.std.proofs.lemmas.Int.{to_z-of_z}
use Rattle.coordinator.specs.TwoPhase.{undecided}
use Rattle.coordinator.proofs.Found.{began}
use Rattle.coordinator.proofs.coord.Coord.start.Goals as goal

pub returns-clause-ok : goal.returns-clause-ok
returns-clause-ok c =
    let number = to_z-of_z w64 c.args.number c.ranges.number in
    let is = c.in_ok-coordination.ensures ∙ ap (λ (n : ℤ).
    undecided (record { lsid = c.args.lsid; number = n; parts = c.args.parts.now })) number in
    c.in_ok-insert.ensures.entries
    ∙ began c.new-2.result c.args.tag c.in_ok-coordination.coordination (undecided
    (record { lsid = c.args.lsid; number = c.args.number; parts = c.args.parts.now }))
    c.self.inside.coordinations.entries c.args.self.now c.new-2.ensures c.self.view_is is
