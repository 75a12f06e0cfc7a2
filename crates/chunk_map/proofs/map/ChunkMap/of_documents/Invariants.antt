use Rattle.std.proofs.Common.{◌≡◌, ◌++◌, drop, option_map, filter_map}
use Rattle.txn_types.specs.Ids.{id_in}
use Rattle.chunk_map.specs.Place.{shard_of}
use Rattle.chunk_map.proofs.map.ChunkMap.of_documents.Given as goal

abbrev pub invariant-loop-item : goal.invariant-loop-item
invariant-loop-item l = l.shards.items ++ filter_map (λ item.
    option_map (shard_of l.self l.ns) (id_in item.doc)) (drop l.item-index l.items)
    ≡ filter_map (λ item. option_map (shard_of l.self l.ns) (id_in item.doc)) l.items
