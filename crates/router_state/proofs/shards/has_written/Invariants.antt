use Rattle.std.proofs.Common.{◌≡◌, drop}
use Rattle.std.specs.List.{list_any}
use Rattle.std.specs.Prelude.{nat_eq}
use Rattle.router_state.proofs.shards.has_written.Given as goal

abbrev pub invariant-loop-wrote : goal.invariant-loop-wrote
invariant-loop-wrote l = list_any (nat_eq l.shard) (drop l.wrote-index l.wrote-items)
    ≡ list_any (nat_eq l.shard) l.wrote-items
