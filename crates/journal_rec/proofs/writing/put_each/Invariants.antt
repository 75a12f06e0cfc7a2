use Rattle.std.proofs.Common.{◌≡◌, ◌++◌, drop}
use Rattle.journal_rec.specs.Volume.{each_write_bytes}
use Rattle.journal_rec.proofs.writing.put_each.Given as goal

abbrev pub invariant-loop-write : goal.invariant-loop-write
invariant-loop-write l =
    l.out.items ++ each_write_bytes (drop l.write-index l.writes)
    ≡ l.initial.out.items ++ each_write_bytes l.writes
