use Rattle.std.proofs.Common.{◌≡◌, drop}
use Rattle.std.specs.Option.{option_or, option_copied}
use Rattle.chunk_map.specs.Map.{ranges_of, last_range}
use Rattle.chunk_map.proofs.faults.last_range.Given as goal

abbrev pub invariant-loop-row : goal.invariant-loop-row
invariant-loop-row l = option_or (last_range (ranges_of l.ns (drop l.row-index l.rows)))
    (option_copied l.last) ≡ last_range (ranges_of l.ns l.rows)
