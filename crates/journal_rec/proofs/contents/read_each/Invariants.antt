use Rattle.std.proofs.Common.{◌≡◌, ◌-◌, []}
use Rattle.journal_rec.specs.Reading.{each_write_at}
use Rattle.journal_rec.proofs.contents.read_each.Given as goal

abbrev pub invariant-loop : goal.invariant-loop
invariant-loop l = each_write_at (l.count - l.counter) l.end l.writes l.rest
    ≡ each_write_at l.count l.end [] l.bytes
