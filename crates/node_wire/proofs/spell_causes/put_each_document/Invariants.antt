use Rattle.std.proofs.Common.{◌≡◌, drop}
use Rattle.std.specs.List.{flat_map}
use Rattle.node_wire.specs.Output.{joined}
use Rattle.bson_core.specs.Spelling.{spelling}
use Rattle.node_wire.proofs.spell_causes.put_each_document.Given as goal

abbrev pub invariant-loop-doc : goal.invariant-loop-doc
invariant-loop-doc l = joined l.out (flat_map spelling (drop l.doc-index l.docs))
    ≡ joined l.initial.out (flat_map spelling l.docs)
