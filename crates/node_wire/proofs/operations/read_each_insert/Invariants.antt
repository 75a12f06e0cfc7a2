use Rattle.std.proofs.Common.{◌≡◌, ◌-◌, []}
use Rattle.node_wire.specs.Reading.{each_at, insert_item_at}
use Rattle.node_wire.proofs.operations.read_each_insert.Given as goal

abbrev pub invariant-loop : goal.invariant-loop
invariant-loop l = each_at (insert_item_at l.end) (l.count - l.counter) l.items l.rest
    ≡ each_at (insert_item_at l.end) l.count [] l.bytes
