-- What holds of a router, so that its numbers fit into messages.
use Rattle.std.specs.Prelude.{◌≤◌}
use Rattle.chunk_map.specs.Map.{IsMap}
use Rattle.router_state.specs.Deeds.{Move}
use Rattle.router_state.specs.State.{RouterState}
use Rattle.router_rules.specs.Safe.{AreSafe, AllFit}

pub record IsSafe (s : RouterState) : Type 0 where
  pub map : IsMap s.chunks
  pub shards : s.chunks.shards ≤ 65535
  pub sessions : AreSafe s.serial s.sessions

-- what is done leaves the router safe, and its replies can be spelled
pub record IsHeld (move : Move) : Type 0 where
  pub state : IsSafe move.state
  pub replies : AllFit move.given.replies
