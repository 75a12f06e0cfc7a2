use Rattle.std.proofs.Common.{◌≡◌, ◌++◌}
use Rattle.txn_types.specs.Letters.{all_sent_by}
use Rattle.txn_types.specs.declared.node.NodeId.TheVariants.{Shard}
use Rattle.coordinator.specs.TwoPhase.{resends}
use Rattle.coordinator.proofs.coord.Coord.letters.Given as goal

abbrev pub invariant-loop-key : goal.invariant-loop-key
invariant-loop-key l =
    l.letters.items ++ all_sent_by (Shard l.shard) l.time (resends l.shard l.key-iterator)
    ≡ all_sent_by (Shard l.shard) l.time (resends l.shard l.initial.key-iterator)
