-- A link in memory, as contracts see it.
use Rattle.std.specs.Prelude.{ℕ, List}
use Rattle.outside_core.specs.Memory.{Fuse}

-- the bytes still to come, those that it took, which calls are to fail, and how often the end was
-- met
pub record Pipe : Type 0 where
  pub left : List ℕ
  pub sent : List ℕ
  pub fuse : Fuse
  pub ends : ℕ
