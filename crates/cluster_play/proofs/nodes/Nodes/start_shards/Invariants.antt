use Rattle.std.specs.Prelude.{IsTrue}
use Rattle.std.proofs.Common.{◌≡◌, ◌≤◌, ◌+◌, vec_len, vec_capacity}
use Rattle.cluster_play.specs.Starting.{AllStarted, shard_states}
use Rattle.cluster_play.specs.Refusing.{AreYoung, after_shards}
use Rattle.cluster_play.proofs.nodes.Nodes.start_shards.Given as goal

abbrev pub invariant-loop-shard : goal.invariant-loop-shard
invariant-loop-shard g l = record {
  started : AllStarted ((d : g.row.D.Denot) → IsTrue (g.D.Disk.tells d)) (shard_states l.self.shards.items);
  count : vec_len l.self.shards ≡ l.shard;
  all : vec_len l.disks + vec_len l.self.shards ≡ 24;
  capacity : vec_capacity l.self.shards ≡ vec_capacity l.initial.self.shards;
  room : vec_capacity l.initial.disks ≤ vec_capacity l.disks;
  young : AreYoung ((d : g.row.D.Denot) → IsTrue (g.D.Disk.tells d)) g.D.Disk.seen
      l.initial.disks.items 0 l.shard;
  left : l.disks.items ≡ after_shards l.initial.disks.items l.shard;
  routers : l.self.routers ≡ l.initial.self.routers;
}
