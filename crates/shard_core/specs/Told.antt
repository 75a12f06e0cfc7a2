-- What the call of a rule gives: a record, envelopes, and what is held; and what comes of a
-- delivered message.
use Rattle.std.specs.Prelude.{◌≡◌, ◌⊎◌, ℕ, [], ◌∷◌, Some, option_and_then}
use Rattle.txn_types.specs.Letters.{Letter, all_sent_by}
use Rattle.txn_types.specs.declared.message.Envelope.{Envelope}
use Rattle.txn_types.specs.declared.names.Tag.{Tag}
use Rattle.txn_types.specs.declared.node.Lsid.{Lsid}
use Rattle.txn_types.specs.declared.node.NodeId.TheVariants.{Shard}
use Rattle.participant.specs.Memory.{ended_for_memory}
use Rattle.shard_core.specs.declared.given.Given.{Given}
use Rattle.shard_core.specs.State.{ShardState, with_part}
use Rattle.shard_core.specs.Arrived.{arrived}
use Rattle.shard_core.specs.Ruled.{Ruled, sends}
use Rattle.shard_core.specs.Rules.{ruled}
use Rattle.shard_core.specs.Wanting.{wanting, told_if}

-- its messages are sent with the clock as it stands then
abbrev pub given_by : Ruled → Given
given_by r = record {
  rec = r.rec;
  out = all_sent_by (Shard r.core.part.shard) r.core.clock.last r.out;
  held = r.held;
}

-- this core is left, and this is given
abbrev pub Gives : Ruled → ShardState → Given → Type 0
Gives r new g = (new ≡ r.core) × (g ≡ given_by r)

-- a live transaction of this session and tag is ended out of memory, which this message tells
abbrev pub told_by : ShardState → Lsid → Tag → Letter → Ruled
told_by s lsid tag letter = sends (with_part s (ended_for_memory s.part lsid tag)) (letter ∷ [])

-- out of memory is told, where it may be
abbrev pub Tells : ShardState → Envelope → ShardState → Given → Type 0
Tells s e new g = (r : Ruled) × (option_and_then (told_if s) (wanting s e.from e.msg) ≡ Some r)
    × Gives r new g

-- what comes of a message at a shard that has its times: its rule, or out of memory is told in
-- its place
abbrev pub ComesAt : ShardState → Envelope → ShardState → Given → Type 0
ComesAt s e new g = Gives (ruled s e.from e.msg) new g ⊎ Tells s e new g

-- what comes of a message that is delivered at this wall
abbrev pub Comes : ShardState → ℕ → Envelope → ShardState → Given → Type 0
Comes s wall e new g = ComesAt (arrived s wall e) e new g
