-- The routers that wait for a decision.
use Rattle.std.specs.Prelude.{ℕ, ◌+◌, Bool, List, [], ◌∷◌, if◌then◌else◌}

-- the routers that a cluster may have
abbrev pub routers : List ℕ
routers = 0 ∷ 1 ∷ 2 ∷ 3 ∷ 4 ∷ 5 ∷ 6 ∷ 7 ∷ []

-- the places of those that are true, from this number on
abbrev pub numbers_from : ℕ → List Bool → List ℕ
numbers_from n [] = []
numbers_from n (b ∷ flags) = if b then n ∷ numbers_from (n + 1) flags
    else numbers_from (n + 1) flags
