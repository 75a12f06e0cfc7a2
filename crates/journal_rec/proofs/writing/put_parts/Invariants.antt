use Rattle.std.proofs.Common.{◌≡◌, ◌++◌, drop}
use Rattle.journal_rec.specs.Spelling.{each_part_bytes}
use Rattle.journal_rec.proofs.writing.put_parts.Given as goal

abbrev pub invariant-loop-part : goal.invariant-loop-part
invariant-loop-part l = l.out.items ++ each_part_bytes (drop l.part-index l.parts)
    ≡ l.initial.out.items ++ each_part_bytes l.parts
