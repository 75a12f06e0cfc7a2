use Rattle.std.proofs.Common.{◌≡◌, drop}
use Rattle.bson_core.specs.Fields.{value_of}
use Rattle.bson_core.proofs.fields.get.Given as goal

abbrev pub invariant-loop-field : goal.invariant-loop-field
invariant-loop-field l =
    value_of l.name (drop l.field-index l.field-items) ≡ value_of l.name l.field-items
