-- Ends of a link. A link counts how often a call found that its peer sends no more; code that is
-- handed the link can't raise the count by itself, so "ended only where the count rose" refuses a
-- body that merely gives up.
use Rattle.std.specs.Prelude.{◌≡◌, ℕ, ◌<◌, ◌≤◌, Result, Ok}
use Rattle.outcomes.specs.Causes.{Rose}

-- the count has not fallen, and has risen where a call that asked for bytes got none
pub record EndsOnly {E : Type 0} (max before now : ℕ) (result : Result ℕ E) : Type 0 where
  pub later : before ≤ now
  pub cause : result ≡ Ok 0 → 0 < max → Rose before now
