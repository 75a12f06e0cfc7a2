use Rattle.std.proofs.Common.{◌≡◌, drop}
use Rattle.std.specs.List.{flat_map}
use Rattle.node_wire.specs.Output.{joined}
use Rattle.node_wire.specs.Spelling.{filter_bytes}
use Rattle.node_wire.proofs.spell_filters.+put_filter.Given as goal

abbrev pub invariant-put_each_filter-loop-filter : goal.invariant-put_each_filter-loop-filter
invariant-put_each_filter-loop-filter l = joined l.out (flat_map filter_bytes
    (drop l.filter-index l.filters)) ≡ joined l.initial.out (flat_map filter_bytes l.filters)
