use Rattle.std.proofs.Common.{◌≡◌, ◌-◌, []}
use Rattle.node_wire.specs.Reading.{each_at, value_at}
use Rattle.node_wire.proofs.filters.read_each_value.Given as goal

abbrev pub invariant-loop : goal.invariant-loop
invariant-loop l = each_at (value_at l.end) (l.count - l.counter) l.values.items l.rest
    ≡ each_at (value_at l.end) l.count [] l.bytes
