use Rattle.std.proofs.Common.{◌≡◌, drop}
use Rattle.std.specs.List.{flat_map}
use Rattle.node_wire.specs.Output.{joined}
use Rattle.node_wire.specs.Spelling.{batched_bytes}
use Rattle.node_wire.proofs.spell_messages.put_each_batched.Given as goal

abbrev pub invariant-loop-envelope : goal.invariant-loop-envelope
invariant-loop-envelope l = joined l.out (flat_map batched_bytes
    (drop l.envelope-index l.envelopes)) ≡ joined l.initial.out (flat_map batched_bytes l.envelopes)
