-- Histories of a machine, after sequential specifications (Herlihy and Wing, "Linearizability",
-- 1990).
use Rattle.std.specs.Prelude.{◌≡◌, List, [], ◌∷◌}

-- the calls lead from the old state to the new one: each answer, and the state after it, are what
-- the machine may answer there
abbrev pub Legal : {M E A : Type 0} → (M → E → A → M → Type 0) → M → List (E × A) → M → Type 0
Legal takes old [] new = new ≡ old
Legal {M} takes old (call ∷ calls) new = (mid : M) × takes old call.0 call.1 mid
    × Legal takes mid calls new
