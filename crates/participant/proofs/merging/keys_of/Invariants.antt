use Rattle.std.proofs.Common.{◌≡◌, map, take}
use Rattle.txn_semantics.specs.Writes.{place_of}
use Rattle.participant.proofs.merging.keys_of.Given as goal

abbrev pub invariant-loop-write : goal.invariant-loop-write
invariant-loop-write l = l.keys.items ≡ map place_of (take l.write-index l.writes)
