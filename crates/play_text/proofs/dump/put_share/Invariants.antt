use Rattle.std.proofs.Common.{◌≡◌, ◌++◌, drop}
use Rattle.play_text.specs.Dump.{kept_by, share, lines_of}
use Rattle.play_text.proofs.dump.put_share.Given as goal

abbrev pub invariant-loop-write : goal.invariant-loop-write
invariant-loop-write l =
    l.out.items
    ++ lines_of (kept_by l.map) (share (kept_by l.map) (drop l.write-index l.writes) l.shard)
    ≡ l.initial.out.items ++ lines_of (kept_by l.map) (share (kept_by l.map) l.writes l.shard)
