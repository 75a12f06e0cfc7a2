use Rattle.std.proofs.Common.{◌≡◌, ◌≤◌, ◌+◌, ◌++◌, vec_len, vec_capacity}
use Rattle.cluster_play.specs.Starting.{shard_disks}
use Rattle.cluster_play.proofs.disks.put_shards.Given as goal

abbrev pub invariant-loop-node : goal.invariant-loop-node
invariant-loop-node g l = record {
  items : shard_disks l.shards.items ++ l.disks.items
      ≡ shard_disks l.initial.shards.items ++ l.initial.disks.items;
  len : vec_len l.shards + vec_len l.disks ≡ vec_len l.initial.shards + vec_len l.initial.disks;
  capacity : vec_capacity l.initial.disks ≤ vec_capacity l.disks;
}

abbrev pub decreases-loop-node : goal.decreases-loop-node
decreases-loop-node g l = vec_len l.shards
