use Rattle.std.proofs.Common.{◌≡◌, ◌++◌}
use Rattle.std.specs.List.{IsDistinct}
use Rattle.std.specs.Map.{keys_of}
use Rattle.std.specs.Ordering.{eq_by_cmp}
use Rattle.txn_types.specs.Order.{lsid_cmp}
use Rattle.session_table.proofs.table.Sessions.copy.Given as goal

abbrev pub invariant-loop-key : goal.invariant-loop-key
invariant-loop-key l = IsDistinct (eq_by_cmp lsid_cmp) (keys_of (l.copy.entries ++ l.key-iterator))
    × (record { limit = l.copy.limit; entries = l.copy.entries ++ l.key-iterator } ≡ l.self)
