use Rattle.std.proofs.Common.{◌≡◌, ◌-◌, []}
use Rattle.node_wire.specs.Reading.{each_at, update_op_at}
use Rattle.node_wire.proofs.operations.read_each_update_op.Given as goal

abbrev pub invariant-loop : goal.invariant-loop
invariant-loop l = each_at (update_op_at l.end) (l.count - l.counter) l.ops.items l.rest
    ≡ each_at (update_op_at l.end) l.count [] l.bytes
