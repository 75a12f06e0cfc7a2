-- A net in memory, as contracts see it.
use Rattle.std.specs.Prelude.{ℕ, List}
use Rattle.outside_core.specs.PipeLink.{Pipe}

-- the links that peers still ask for, how often a call has failed, and how many links it has
-- accepted
pub record Peers : Type 0 where
  pub links : List Pipe
  pub faults : ℕ
  pub accepted : ℕ
