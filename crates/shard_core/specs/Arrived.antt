-- A shard at which a message has come.
use Rattle.std.specs.Prelude.{ℕ}
use Rattle.txn_types.specs.declared.message.Envelope.{Envelope}
use Rattle.shard_core.specs.State.{ShardState, walled, expired, met}

-- at the wall of its event, without what has expired, and with the message's times
unfoldable pub arrived : ShardState → ℕ → Envelope → ShardState
arrived s wall e = met (expired (walled s wall)) e
