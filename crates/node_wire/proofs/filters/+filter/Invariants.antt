use Rattle.std.proofs.Common.{◌≡◌, ◌+◌, ◌*◌, ◌-◌, []}
use Rattle.node_wire.specs.Reading.{each_at, filter_at}
use Rattle.node_wire.proofs.filters.+filter.Given as goal

abbrev pub decreases-read_filter_within : goal.decreases-read_filter_within
decreases-read_filter_within l = 4 * l.levels

abbrev pub decreases-read_filter_by : goal.decreases-read_filter_by
decreases-read_filter_by l = 4 * l.levels + 3

abbrev pub decreases-read_filters : goal.decreases-read_filters
decreases-read_filters l = 4 * l.levels + 2

abbrev pub decreases-read_each_filter : goal.decreases-read_each_filter
decreases-read_each_filter l = 4 * l.levels + 1

abbrev pub invariant-read_each_filter-loop : goal.invariant-read_each_filter-loop
invariant-read_each_filter-loop l = each_at (filter_at l.levels l.end) (l.count - l.counter)
    l.filters.items l.rest ≡ each_at (filter_at l.levels l.end) l.count [] l.bytes
