use Rattle.std.proofs.Common.{◌≡◌, drop}
use Rattle.std.specs.List.{list_all}
use Rattle.coordinator.specs.TwoPhase.{has_acked, with_ack}
use Rattle.coordinator.proofs.coordination.Coordination.all_acked_behind.Given as goal

abbrev pub invariant-loop-other : goal.invariant-loop-other
invariant-loop-other l =
    list_all (λ part. has_acked part.0 (with_ack l.shard l.self)) (drop l.other-index l.other-items)
    ≡ list_all (λ part. has_acked part.0 (with_ack l.shard l.self)) l.other-items
