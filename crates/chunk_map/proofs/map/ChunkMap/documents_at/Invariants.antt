use Rattle.std.proofs.Common.{◌≡◌, ◌++◌, drop, filter}
use Rattle.txn_semantics.specs.Meaning.{document_rules}
use Rattle.txn_semantics.specs.Splits.{here, goes}
use Rattle.chunk_map.specs.Place.{shard_of}
use Rattle.chunk_map.proofs.map.ChunkMap.documents_at.Given as goal

abbrev pub invariant-loop-item : goal.invariant-loop-item
invariant-loop-item l =
    l.kept ++ filter (goes document_rules (here (shard_of l.self l.ns) l.shard)) (drop l.item-index
    l.items) ≡ filter (goes document_rules (here (shard_of l.self l.ns) l.shard)) l.items
