-- What a router's steps keep to, whatever it meets.
use Rattle.std.specs.Prelude.{◌≡◌, ◌≤◌, ◌+◌}
use Rattle.router_state.specs.State.{RouterState}

-- a router goes on: it stays the one that was started, with its map; its wall and its time never
-- fall; and a step draws one serial at most, which is the next
pub record GoesOn (old new : RouterState) : Type 0 where
  pub number : new.number ≡ old.number
  pub boot : new.boot ≡ old.boot
  pub chunks : new.chunks ≡ old.chunks
  pub wall : old.wall ≤ new.wall
  pub time : old.time ≤ new.time
  pub serial : (old.serial ≤ new.serial) × (new.serial ≤ old.serial + 1)
