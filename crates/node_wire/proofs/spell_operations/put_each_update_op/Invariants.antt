use Rattle.std.proofs.Common.{◌≡◌, drop}
use Rattle.std.specs.List.{flat_map}
use Rattle.node_wire.specs.Output.{joined}
use Rattle.node_wire.specs.Spelling.{update_op_bytes}
use Rattle.node_wire.proofs.spell_operations.put_each_update_op.Given as goal

abbrev pub invariant-loop-op : goal.invariant-loop-op
invariant-loop-op l = joined l.out (flat_map update_op_bytes (drop l.op-index l.ops))
    ≡ joined l.initial.out (flat_map update_op_bytes l.ops)
