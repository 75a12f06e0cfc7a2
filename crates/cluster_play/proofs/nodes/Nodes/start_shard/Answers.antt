use Rattle.std.specs.Prelude.{IsTrue}
use Rattle.std.proofs.Common.{arith}
use Rattle.cluster_play.specs.Refusing.{IsYoung, RefusesFirst}
use Rattle.cluster_play.proofs.Starts.{shards_push}
use Rattle.cluster_play.proofs.Refused.{replaced, taken_out}
use Rattle.cluster_play.proofs.nodes.Nodes.start_shard.Goals as goal

pub returns-in-Ok-clause-started : goal.returns-in-Ok-clause-started
returns-in-Ok-clause-started g c = shards_push
    ((d : g.row.D.Denot) → IsTrue (g.D.Disk.tells d)) c.args.self.now.shards.items
    c.push_reserved.new.self.items c.in-Ok.node c.args.shard c.push_reserved.ensures.items
    (omega (arith, c.requires.next, c.args.self.now.shards.ok.0)) c.requires.started
    c.in-Ok.ensures.started

pub returns-in-Ok-clause-disk : goal.returns-in-Ok-clause-disk
returns-in-Ok-clause-disk g c =
    let told = (d : g.row.D.Denot) → IsTrue (g.D.Disk.tells d) in
    taken_out (λ (d : g.row.D.Denot). IsYoung told (g.D.Disk.seen d)) c.args.disks.now.items
    c.remove.new.self.items 0 c.remove.result
    (omega (arith, c.requires.disk, c.args.disks.now.ok.0)) c.remove.ensures.value
    c.remove.ensures.items c.in-Ok.ensures.young

pub returns-in-Err-clause-why : goal.returns-in-Err-clause-why
returns-in-Err-clause-why g c =
    let told = (d : g.row.D.Denot) → IsTrue (g.D.Disk.tells d) in
    replaced (RefusesFirst told g.D.Disk.seen g.D.Disk.fault_count c.in-Err.error)
    c.args.disks.now.items c.remove.new.self.items c.put_in.new.disks.items 0 c.remove.result
    c.in-Err.disk (omega (arith, c.requires.disk, c.args.disks.now.ok.0)) c.remove.ensures.value
    c.remove.ensures.items c.put_in.ensures.items c.in-Err.ensures.refused
