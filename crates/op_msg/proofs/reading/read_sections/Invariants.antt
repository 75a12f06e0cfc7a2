use Rattle.std.proofs.Common.{◌≡◌, ◌+◌, ◌-◌, length, [], None}
use Rattle.op_msg.specs.Reading.{sections_at}
use Rattle.op_msg.proofs.reading.read_sections.Given as goal

abbrev pub invariant-loop : goal.invariant-loop
invariant-loop l = sections_at (length l.bytes + 1 - l.counter) (l.found.body, l.found.seqs.items)
    l.rest ≡ sections_at (length l.bytes + 1) (None, []) l.bytes
