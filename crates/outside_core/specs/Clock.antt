-- A clock in memory, as contracts see it.
use Rattle.std.specs.Prelude.{ℕ, ◌==◌, Bool}

-- the one moment that it tells
abbrev pub tells_only : ℕ → ℕ → Bool
tells_only secs moment = moment == secs
