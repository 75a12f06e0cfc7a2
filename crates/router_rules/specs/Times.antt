-- The times of a router. Its wall is the greatest that it has met, and so is its cluster time.
use Rattle.std.specs.Prelude.{ℕ, ◌*◌, ◌^◌, max, Bool, false, List, [], ◌∷◌, Option, Some, None}
use Rattle.std.specs.Prelude.{unwrap_or, if◌then◌else◌}
use Rattle.router_state.specs.State.{RouterState}

abbrev pub walled : RouterState → ℕ → RouterState
walled s wall = record s { wall = max s.wall wall }

abbrev pub timed : RouterState → ℕ → RouterState
timed s time = record s { time = max s.time time }

-- with the times that a request names
abbrev pub met : RouterState → Option ℕ → Option ℕ → RouterState
met s time after = timed (timed s (unwrap_or time 0)) (unwrap_or after 0)

-- What a transaction reads at is chosen at its first statement: the time that this names, or else
-- the greatest of the router's time, of its wall and of 1.
abbrev pub chosen : RouterState → Option ℕ → ℕ
chosen s (Some at) = at
chosen s None = max (max s.time (s.wall * 2 ^ 32)) 1

-- A command by itself that goes to one shard and names no time is left to the shard, which is told
-- by 0.
abbrev pub is_left : Bool → List ℕ → Option ℕ → Bool
is_left plain (shard ∷ []) None = plain
is_left plain shards at = false

abbrev pub read_time : RouterState → Bool → List ℕ → Option ℕ → ℕ
read_time s plain shards at = if is_left plain shards at then 0 else chosen s at
