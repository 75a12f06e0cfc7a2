use Rattle.std.proofs.Common.{◌≡◌, ◌≤◌, ◌+◌, ◌++◌, take, drop, vec_len, vec_capacity}
use Rattle.cluster_play.specs.Starting.{router_disks}
use Rattle.cluster_play.proofs.disks.put_routers.Given as goal

abbrev pub invariant-loop-node : goal.invariant-loop-node
invariant-loop-node g l = record {
  front : take 16 l.disks.items ≡ take 16 l.initial.disks.items;
  behind : router_disks l.routers.items ++ drop 16 l.disks.items
      ≡ router_disks l.initial.routers.items ++ drop 16 l.initial.disks.items;
  len : vec_len l.routers + vec_len l.disks ≡ vec_len l.initial.routers + vec_len l.initial.disks;
  capacity : vec_capacity l.initial.disks ≤ vec_capacity l.disks;
  shards : 16 ≤ vec_len l.disks;
}

abbrev pub decreases-loop-node : goal.decreases-loop-node
decreases-loop-node g l = vec_len l.routers
