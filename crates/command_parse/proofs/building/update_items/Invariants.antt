use Rattle.std.proofs.Common.{◌≡◌, [], drop, map}
use Rattle.crud_parse.specs.Results.{with_front}
use Rattle.command_parse.specs.Items.{each_at, update_item}
use Rattle.command_parse.proofs.building.update_items.Given as goal

abbrev pub invariant-loop-index : goal.invariant-loop-index
invariant-loop-index l = with_front l.items.items (each_at update_item l.index (map (λ doc. doc.now)
    (drop l.index l.docs))) ≡ with_front [] (each_at update_item 0 (map (λ doc. doc.now) l.docs))
