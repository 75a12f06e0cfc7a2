use Rattle.std.proofs.Common.{◌≡◌, drop}
use Rattle.crud_parse.specs.Operators.{beside}
use Rattle.command_parse.proofs.fields.section_of.Given as goal

abbrev pub invariant-loop-section : goal.invariant-loop-section
invariant-loop-section l =
    beside l.name (drop l.section-index l.section-items) ≡ beside l.name l.frame.seqs
