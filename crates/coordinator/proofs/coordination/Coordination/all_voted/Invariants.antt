use Rattle.std.proofs.Common.{◌≡◌, drop}
use Rattle.std.specs.List.{list_all}
use Rattle.coordinator.specs.TwoPhase.{has_voted}
use Rattle.coordinator.proofs.coordination.Coordination.all_voted.Given as goal

abbrev pub invariant-loop-shard : goal.invariant-loop-shard
invariant-loop-shard l = list_all (λ part. has_voted part.0 l.self) (drop l.shard-index
    l.shard-items) ≡ list_all (λ part. has_voted part.0 l.self) l.shard-items
