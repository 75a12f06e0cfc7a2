use Rattle.std.specs.Prelude.{IsTrue}
use Rattle.std.proofs.Common.{arith}
use Rattle.cluster_play.proofs.Refused.{refuses_starts}
use Rattle.cluster_play.proofs.nodes.Nodes.start.Goals as goal

pub returns-in-Err-clause-why : goal.returns-in-Err-clause-why
returns-in-Err-clause-why g c =
    let told = (d : g.row.D.Denot) → IsTrue (g.D.Disk.tells d) in
    let nodes = c.start_all.new.self in
    refuses_starts told g.D.Disk.seen g.D.Disk.fault_count c.args.conf.now c.args.disks.now.items
    c.start_all.new.disks.items c.give_back.new.disks.items nodes.shards.items nodes.routers.items
    _ _ c.in-Err.status (omega (arith, nodes.shards.ok.0)) (omega (arith, nodes.routers.ok.0))
    (omega (arith, c.requires, c.args.disks.now.ok.0))
    (omega (arith, c.start_all.ensures.all, c.start_all.new.disks.ok.0)) c.start_all.ensures.few
    c.in-Err.ensures.why c.give_back.ensures.places
