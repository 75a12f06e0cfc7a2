use Rattle.std.proofs.Common.{◌≡◌, ◌++◌, filter, drop, not}
use Rattle.coordinator.specs.TwoPhase.{has_voted}
use Rattle.coordinator.proofs.coordination.Coordination.unheard.Given as goal

abbrev pub invariant-loop-part : goal.invariant-loop-part
invariant-loop-part l =
    l.wanted.items ++ filter (λ part. not (has_voted part.0 l.self)) (drop l.part-index
    l.part-items) ≡ filter (λ part. not (has_voted part.0 l.self)) l.part-items
