-- A shard at which a message has come.
use Rattle.std.proofs.Common.{◌≡◌, ℕ, max, Option, Some, None, refl, ap, sym}
use Rattle.txn_types.specs.Clock.{Clock, raised}
use Rattle.txn_types.specs.declared.message.Envelope.{Envelope}
use Rattle.shard_core.specs.State.{ShardState, walled, expired, ceiling_of, read_at_of}
use Rattle.shard_core.specs.Arrived.{arrived}
use Rattle.shard_core.proofs.Numbered.{expire_keeps}

pub raised_last : (clock : Clock) (bound : Option ℕ) → (raised clock bound).last ≡ clock.last
raised_last clock None = refl
raised_last clock (Some bound) = refl

pub arrived_last : (s : ShardState) (wall : ℕ) (e : Envelope)
    → (arrived s wall e).clock.last ≡ max (max s.clock.last e.time) (read_at_of e.msg)
unfolding arrived
arrived_last s wall e = ap (λ (n : ℕ). max (max n e.time) (read_at_of e.msg)) (raised_last s.clock
    (ceiling_of (expired (walled s wall)) e))

pub arrived_coord : (s : ShardState) (wall : ℕ) (e : Envelope) → (arrived s wall e).coord ≡ s.coord
unfolding arrived
arrived_coord s wall e = refl

pub arrived_shard : (s : ShardState) (wall : ℕ) (e : Envelope)
    → (arrived s wall e).part.shard ≡ s.part.shard
unfolding arrived
arrived_shard s wall e = sym (expire_keeps s.part (max s.wall wall)).shard
