use Rattle.std.proofs.Common.{◌≡◌, ◌≤◌, ◌+◌, ◌++◌, map, drop, vec_len}
use Rattle.std.specs.Vec.{vec_capacity}
use Rattle.txn_types.specs.Letters.{all_sent_by}
use Rattle.txn_types.specs.declared.node.NodeId.TheVariants.{Shard}
use Rattle.shard_core.specs.Senders.{outcome_to}
use Rattle.shard_core.proofs.deciding.put_outcomes.Given as goal

abbrev pub invariant-loop-router : goal.invariant-loop-router
invariant-loop-router l = record {
  items : l.out.items ++ all_sent_by (Shard l.sender.shard) l.sender.time (map
      (outcome_to l.sender.shard l.sender.boot l.tag l.decision) (drop l.router-index l.routers))
      ≡ l.initial.out.items ++ all_sent_by (Shard l.sender.shard) l.sender.time
      (map (outcome_to l.sender.shard l.sender.boot l.tag l.decision) l.routers);
  len : vec_len l.out ≡ vec_len l.initial.out + l.router-index;
  capacity : vec_capacity l.initial.out ≤ vec_capacity l.out;
}
