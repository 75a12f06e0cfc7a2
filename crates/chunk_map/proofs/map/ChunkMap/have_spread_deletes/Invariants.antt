use Rattle.std.proofs.Common.{◌≡◌, drop}
use Rattle.std.specs.List.{list_any}
use Rattle.chunk_map.specs.Parts.{is_spread}
use Rattle.chunk_map.proofs.map.ChunkMap.have_spread_deletes.Given as goal

abbrev pub invariant-loop-item : goal.invariant-loop-item
invariant-loop-item l = list_any (λ item. is_spread l.self l.ns item.many item.filter) (drop
    l.item-index l.items) ≡ list_any (λ item. is_spread l.self l.ns item.many item.filter) l.items
