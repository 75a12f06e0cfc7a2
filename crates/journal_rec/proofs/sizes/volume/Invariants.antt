use Rattle.std.proofs.Common.{◌≡◌, ◌+◌, ◌-◌, ◌^◌, ◌<◌, length, min, drop}
use Rattle.journal_rec.specs.Volume.{each_write_bytes}
use Rattle.journal_rec.proofs.sizes.volume.Given as goal

abbrev pub invariant-loop-write : goal.invariant-loop-write
invariant-loop-write l = record {
  fits : l.bytes < 2 ^ 64;
  counted : min (l.bytes + length (each_write_bytes (drop l.write-index l.writes))) (2 ^ 64 - 1)
      ≡ min (4 + length (each_write_bytes l.writes)) (2 ^ 64 - 1);
}
