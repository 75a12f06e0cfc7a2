use Rattle.std.proofs.Common.{◌≡◌, Option, Some, true, ap, sym, subst, ◌∙◌, IfSome}
use Rattle.coordinator.specs.TwoPhase.{Coordinated, with_coordinated, with_decision}
use Rattle.coordinator.specs.contracts.coord.Coord.{the_view}
use Rattle.coordinator.proofs.Found.{held_there, held_nowhere, changed}
use Rattle.coordinator.proofs.coord.Coord.restore.Goals as goal
use Rattle.coordinator.proofs.coord.Coord.restore.Goals.{in-Some, in_default}

pub returns : goal.returns
returns c =
    let entries = c.self.inside.coordinations.entries in
    let coords = c.args.self.now in
    let key = c.new.result in
    let tag = c.args.tag in
    elim c.match-get_mut.branch [
      | in-Some w ↦
          subst (λ (o : Option Coordinated). IfSome o (λ k. the_view c.match-get_mut.self-inside
          ≡ with_coordinated c.args.tag (with_decision (Some c.args.decision) k)
          c.args.self.now)) (sym (held_there key tag w.in-Some.coordination.now entries coords
          c.new.ensures c.self.view_is w.in-Some.ensures.value))
          (ap the_view w.self-inside-is
          ∙ (c.get_mut.follows.holds w.decide.new.self).0
          ∙ changed (true) key tag w.in-Some.coordination.now w.decide.new.self (with_decision
          (Some c.args.decision) w.in-Some.coordination.now) entries coords c.new.ensures
          c.self.view_is c.get_mut.ensures.ordered w.in-Some.ensures.value w.decide.ensures)
      | in_default w ↦
          subst (λ (o : Option Coordinated).
          IfSome o (λ k. the_view c.match-get_mut.self-inside ≡ with_coordinated c.args.tag
          (with_decision (Some c.args.decision) k) c.args.self.now)) (sym (held_nowhere key tag
          entries coords c.new.ensures c.self.view_is w.in_default.ensures.value))
          (tt)
    ]
