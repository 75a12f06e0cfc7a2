use Rattle.std.specs.List.{All}
use Rattle.std.proofs.Common.{take}
use Rattle.codec_laws.specs.Spells.{IsSpelt, IsFieldSpelt}
use Rattle.codec_laws.proofs.spellings.+spelt.Given as goal

abbrev pub invariant-fields_are_spelt-loop-name : goal.invariant-fields_are_spelt-loop-name
invariant-fields_are_spelt-loop-name l = All IsFieldSpelt (take l.name-index l.fields)

abbrev pub invariant-values_are_spelt-loop-value : goal.invariant-values_are_spelt-loop-value
invariant-values_are_spelt-loop-value l = All IsSpelt (take l.value-index l.values)
