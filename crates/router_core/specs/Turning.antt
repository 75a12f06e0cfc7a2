-- What a turn gives out, as values and as bytes.
use Rattle.std.specs.Prelude.{◌≡◌, map}
use Rattle.router_plan.specs.Spelling.{spelled}
use Rattle.router_plan.specs.declared.turn.Turn.{Turn}
use Rattle.router_core.specs.Step.{RouterTurn}

-- the messages, the replies as values and as the bytes that spell them, and the closing
pub record IsTurn (defined : RouterTurn) (turn : Turn) : Type 0 where
  pub out : turn.out ≡ defined.out
  pub told : turn.told ≡ defined.replies
  pub replies : turn.replies ≡ map (spelled defined.state.time) defined.replies
  pub closed : turn.closed ≡ defined.closed
