use Rattle.std.proofs.Common.{◌≤◌, length, arith}
use Rattle.cluster_play.proofs.Places.{front_kept, routers_popped}
use Rattle.cluster_play.proofs.disks.put_routers.Goals as goal

pub loop-node-preserved : goal.loop-node-preserved
loop-node-preserved g c =
    let many : 16 ≤ length c.loop-node.disks.items =
    omega (arith, c.loop-node.invariant.shards, c.loop-node.disks.ok.0) in
    record {
      front = front_kept c.into_disk.result c.loop-node.disks.items c.put_in.new.disks.items _
          c.put_in.ensures.items many c.loop-node.invariant.front;
      behind = routers_popped c.loop-node.routers.items c.pop.new.self.items c.in-Some.node
          c.into_disk.result c.loop-node.disks.items c.put_in.new.disks.items _
          c.in-Some.ensures.items c.into_disk.ensures.disk c.put_in.ensures.items many
          c.loop-node.invariant.behind;
      len = omega (arith, c.loop-node.invariant.len, c.in-Some.ensures.len, c.put_in.ensures.len);
      capacity = omega (arith, c.loop-node.invariant.capacity, c.put_in.ensures.capacity);
      shards = omega (arith, c.loop-node.invariant.shards, c.put_in.ensures.len);
    }
