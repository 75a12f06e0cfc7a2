use Rattle.std.specs.Prelude.{IsTrue}
use Rattle.std.proofs.Common.{◌≡◌, ◌≤◌, ◌+◌, ◌-◌, vec_len, vec_capacity}
use Rattle.cluster_play.specs.Starting.{AllBooted, router_states}
use Rattle.cluster_play.specs.Refusing.{AreYoung, after_routers}
use Rattle.cluster_play.proofs.nodes.Nodes.start_routers.Given as goal

abbrev pub invariant-loop-router : goal.invariant-loop-router
invariant-loop-router g l = record {
  booted : AllBooted ((d : g.row.D.Denot) → IsTrue (g.D.Disk.tells d)) l.conf.map
      (router_states l.self.routers.items);
  count : vec_len l.self.routers ≡ l.router;
  all : vec_len l.disks + vec_len l.self.routers ≡ vec_len l.initial.disks;
  capacity : vec_capacity l.self.routers ≡ vec_capacity l.initial.self.routers;
  room : vec_capacity l.initial.disks ≤ vec_capacity l.disks;
  young : AreYoung ((d : g.row.D.Denot) → IsTrue (g.D.Disk.tells d)) g.D.Disk.seen
      l.initial.disks.items (16 - l.conf.shards) l.router;
  left : l.disks.items ≡ after_routers l.initial.disks.items (16 - l.conf.shards) l.router;
  shards : l.self.shards ≡ l.initial.self.shards;
}
