use Rattle.std.proofs.Common.{arith}
use Rattle.cluster_play.proofs.Places.{shards_popped}
use Rattle.cluster_play.proofs.disks.put_shards.Goals as goal

pub loop-node-preserved : goal.loop-node-preserved
loop-node-preserved g c = record {
  items = shards_popped c.loop-node.shards.items c.pop.new.self.items c.in-Some.node
      c.into_disk.result c.loop-node.disks.items c.put_in.new.disks.items _ c.in-Some.ensures.items
      c.into_disk.ensures.disk c.put_in.ensures.items c.loop-node.invariant.items;
  len = omega (arith, c.loop-node.invariant.len, c.in-Some.ensures.len, c.put_in.ensures.len);
  capacity = omega (arith, c.loop-node.invariant.capacity, c.put_in.ensures.capacity);
}
