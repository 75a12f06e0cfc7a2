use Rattle.std.specs.List.{All}
use Rattle.std.proofs.Common.{take}
use Rattle.bson_core.specs.Written.{IsWritten, IsFieldWritten}
use Rattle.bson_core.proofs.laws.+written.Given as goal

abbrev pub invariant-fields_are_written-loop-name : goal.invariant-fields_are_written-loop-name
invariant-fields_are_written-loop-name l = All IsFieldWritten (take l.name-index l.fields)

abbrev pub invariant-values_are_written-loop-value : goal.invariant-values_are_written-loop-value
invariant-values_are_written-loop-value l = All IsWritten (take l.value-index l.values)
