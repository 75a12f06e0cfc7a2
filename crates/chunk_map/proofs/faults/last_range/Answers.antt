use Rattle.std.proofs.Common.{◌≡◌, ◌∙◌, sym, true, rules}
use Rattle.std.specs.Str.{bytes_eq}
use Rattle.std.specs.Option.{option_copied}
use Rattle.chunk_map.proofs.Behind.{last_next}
use Rattle.chunk_map.proofs.faults.last_range.Goals as goal

pub loop-row-preserved : goal.loop-row-preserved
loop-row-preserved c =
    let same : bytes_eq c.row-item.result.ns c.args.ns.now ≡ true = search rules in
    sym (last_next c.args.ns.now c.args.rows.now c.loop-row.row-index c.row-item.result
    c.row-item.is c.loop-row-test.true same (option_copied c.loop-row.last))
    ∙ c.loop-row.invariant
