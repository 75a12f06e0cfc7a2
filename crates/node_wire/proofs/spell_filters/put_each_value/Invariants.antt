use Rattle.std.proofs.Common.{◌≡◌, drop}
use Rattle.std.specs.List.{flat_map}
use Rattle.node_wire.specs.Output.{joined}
use Rattle.node_wire.specs.Spelling.{value_bytes}
use Rattle.node_wire.proofs.spell_filters.put_each_value.Given as goal

abbrev pub invariant-loop-value : goal.invariant-loop-value
invariant-loop-value l = joined l.out (flat_map value_bytes (drop l.value-index l.values))
    ≡ joined l.initial.out (flat_map value_bytes l.values)
