use Rattle.std.proofs.Common.{◌∙◌, ◌+◌, sym, ap, take, drop}
use Rattle.std.specs.Option.{option_or}
use Rattle.chunk_map.specs.Map.{fault_behind}
use Rattle.chunk_map.proofs.Behind.{fault_at}
use Rattle.chunk_map.proofs.faults.first_fault.Goals as goal

pub loop-place-preserved : goal.loop-place-preserved
loop-place-preserved c =
    let k = c.loop-place.place in
    let rows = c.args.rows.now in
    let rest = fault_behind c.args.shards (k + 1) (take (k + 1) rows) (drop (k + 1) rows) in
    sym (fault_at c.args.shards k rows c.index-rows-place.result c.index-rows-place.is
    c.loop-place-test.true
    ∙ ap (λ o. option_or o rest) (sym c.row_fault.ensures ∙ c.in_default.is))
    ∙ c.loop-place.invariant
