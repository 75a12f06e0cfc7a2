use Rattle.std.proofs.Common.{◌≡◌, ◌-◌, []}
use Rattle.node_wire.specs.Reading.{each_at, batched_at}
use Rattle.node_wire.proofs.messages.read_each_batched.Given as goal

abbrev pub invariant-loop : goal.invariant-loop
invariant-loop l = each_at (batched_at l.end) (l.count - l.counter) l.envelopes.items l.rest
    ≡ each_at (batched_at l.end) l.count [] l.bytes
