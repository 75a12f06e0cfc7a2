use Rattle.std.proofs.Common.{◌≡◌, drop}
use Rattle.std.specs.List.{flat_map}
use Rattle.node_wire.specs.Output.{joined}
use Rattle.node_wire.specs.Spelling.{update_item_bytes}
use Rattle.node_wire.proofs.spell_operations.put_each_update.Given as goal

abbrev pub invariant-loop-item : goal.invariant-loop-item
invariant-loop-item l = joined l.out (flat_map update_item_bytes (drop l.item-index l.items))
    ≡ joined l.initial.out (flat_map update_item_bytes l.items)
