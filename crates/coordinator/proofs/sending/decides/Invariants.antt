use Rattle.std.proofs.Common.{◌≡◌, ◌++◌, map, drop}
use Rattle.txn_types.specs.Letters.{all_sent_by}
use Rattle.txn_types.specs.declared.node.NodeId.TheVariants.{Shard}
use Rattle.coordinator.specs.TwoPhase.{decide_to}
use Rattle.coordinator.proofs.sending.decides.Given as goal

abbrev pub invariant-loop-participant : goal.invariant-loop-participant
invariant-loop-participant l =
    l.letters.items ++ all_sent_by (Shard l.from) l.time
    (map (decide_to l.tag l.plan l.decision) (drop l.participant-index l.to))
    ≡ all_sent_by (Shard l.from) l.time (map (decide_to l.tag l.plan l.decision) l.to)
