use Rattle.std.proofs.Common.{◌≡◌, ℕ, drop, max}
use Rattle.std.specs.List.{fold}
use Rattle.coordinator.specs.TwoPhase.{greatest}
use Rattle.coordinator.proofs.coordination.Coordination.greatest.Given as goal

abbrev pub invariant-loop-at : goal.invariant-loop-at
invariant-loop-at l = fold (λ (most : ℕ) (vote : ℕ × ℕ). max most vote.1) l.most (drop l.at-index
    l.at-items) ≡ greatest l.at-items
