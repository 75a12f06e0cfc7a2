use Rattle.std.proofs.Common.{◌≡◌, drop, is_none}
use Rattle.std.specs.List.{list_all}
use Rattle.txn_semantics.specs.Writes.{place_of}
use Rattle.version_store.specs.Versions.{against, versions_of}
use Rattle.shard_image.proofs.order.are_free.Given as goal

abbrev pub invariant-loop-write : goal.invariant-loop-write
invariant-loop-write l =
    list_all (λ write. is_none (against l.read_at l.tag (versions_of l.store (place_of write))))
    (drop l.write-index l.writes)
    ≡ list_all (λ write. is_none (against l.read_at l.tag (versions_of l.store (place_of write))))
    l.writes
