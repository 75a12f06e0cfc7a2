-- Counts of faults. An object of the outside counts its failed calls; code that is handed the
-- object can't raise the count by itself, so "this fault only where the count rose" refuses a body
-- that merely gives up.
use Rattle.std.specs.Prelude.{◌≡◌, ℕ, ◌+◌, ◌-◌, ◌^◌, ◌≤◌, min, Result, Err}

-- the count has risen, or stands at its type's end
abbrev pub Rose : ℕ → ℕ → Type 0
Rose before now = min (before + 1) (2 ^ 64 - 1) ≤ now

-- the count has not fallen, and has risen where the result is this failure
pub record FailsOnly {T E : Type 0} (failure : E) (before now : ℕ)
    (result : Result T E) : Type 0 where
  pub later : before ≤ now
  pub cause : result ≡ Err failure → Rose before now
