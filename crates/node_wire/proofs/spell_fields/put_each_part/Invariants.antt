use Rattle.std.proofs.Common.{◌≡◌, drop}
use Rattle.std.specs.List.{flat_map}
use Rattle.node_wire.specs.Output.{joined}
use Rattle.node_wire.specs.Spelling.{part_bytes}
use Rattle.node_wire.proofs.spell_fields.put_each_part.Given as goal

abbrev pub invariant-loop-part : goal.invariant-loop-part
invariant-loop-part l = joined l.out (flat_map part_bytes (drop l.part-index l.parts))
    ≡ joined l.initial.out (flat_map part_bytes l.parts)
