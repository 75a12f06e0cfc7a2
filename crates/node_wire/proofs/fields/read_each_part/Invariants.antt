use Rattle.std.proofs.Common.{◌≡◌, ◌-◌, length, []}
use Rattle.node_wire.specs.Reading.{each_at, part_at}
use Rattle.node_wire.proofs.fields.read_each_part.Given as goal

abbrev pub invariant-loop : goal.invariant-loop
invariant-loop l = record {
  so_far : each_at (part_at l.end) (l.count - l.counter) l.parts l.rest
      ≡ each_at (part_at l.end) l.count [] l.bytes;
  counted : length l.parts ≡ l.counter;
}
