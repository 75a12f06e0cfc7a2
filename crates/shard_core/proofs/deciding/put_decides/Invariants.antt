use Rattle.std.proofs.Common.{◌≡◌, ◌≤◌, ◌+◌, ◌++◌, map, drop, vec_len}
use Rattle.std.specs.Vec.{vec_capacity}
use Rattle.txn_types.specs.Letters.{all_sent_by}
use Rattle.txn_types.specs.declared.node.NodeId.TheVariants.{Shard}
use Rattle.coordinator.specs.TwoPhase.{decide_to}
use Rattle.shard_core.proofs.deciding.put_decides.Given as goal

abbrev pub invariant-loop-shard : goal.invariant-loop-shard
invariant-loop-shard l = record {
  items : l.out.items ++ all_sent_by (Shard l.sender.shard) l.sender.time
      (map (decide_to l.tag l.plan l.decision) (drop l.shard-index l.shard-items))
      ≡ l.initial.out.items ++ all_sent_by (Shard l.sender.shard) l.sender.time
      (map (decide_to l.tag l.plan l.decision) l.shard-items);
  len : vec_len l.out ≡ vec_len l.initial.out + l.shard-index;
  capacity : vec_capacity l.initial.out ≤ vec_capacity l.out;
  parts : l.shard-items ≡ l.plan.parts;
}
