use Rattle.std.proofs.Common.{◌≡◌, take}
use Rattle.txn_types.proofs.filter.+copy_filter.Given as goal

abbrev pub invariant-copy_filters-loop-filter : goal.invariant-copy_filters-loop-filter
invariant-copy_filters-loop-filter l = l.copy.items ≡ take l.filter-index l.filter-items
