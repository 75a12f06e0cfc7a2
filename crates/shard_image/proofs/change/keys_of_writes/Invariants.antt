use Rattle.std.proofs.Common.{◌≡◌, ◌++◌, map, drop}
use Rattle.txn_semantics.specs.Writes.{place_of}
use Rattle.shard_image.proofs.change.keys_of_writes.Given as goal

abbrev pub invariant-loop-write : goal.invariant-loop-write
invariant-loop-write l =
    l.keys.items ++ map place_of (drop l.write-index l.writes) ≡ map place_of l.writes
