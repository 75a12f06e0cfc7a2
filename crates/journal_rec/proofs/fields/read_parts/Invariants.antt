use Rattle.std.proofs.Common.{◌≡◌, ◌-◌, length, []}
use Rattle.journal_rec.specs.Reading.{parts_at}
use Rattle.journal_rec.proofs.fields.read_parts.Given as goal

abbrev pub invariant-loop : goal.invariant-loop
invariant-loop l = record {
  so_far : parts_at (l.count - l.counter) l.parts l.rest ≡ parts_at l.count [] l.bytes;
  counted : length l.parts ≡ l.counter;
}
