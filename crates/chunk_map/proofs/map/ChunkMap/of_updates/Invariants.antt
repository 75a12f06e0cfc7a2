use Rattle.std.proofs.Common.{◌≡◌, ◌++◌, drop, flat_map}
use Rattle.chunk_map.specs.Place.{shards_for}
use Rattle.chunk_map.proofs.map.ChunkMap.of_updates.Given as goal

abbrev pub invariant-loop-item : goal.invariant-loop-item
invariant-loop-item l = l.shards.items ++ flat_map (λ item. shards_for l.self l.ns item.filter)
    (drop l.item-index l.items) ≡ flat_map (λ item. shards_for l.self l.ns item.filter) l.items
