use Rattle.std.specs.Prelude.{IsTrue}
use Rattle.cluster_play.proofs.Starts.{started_new}
use Rattle.cluster_play.proofs.Refused.{shard_refused}
use Rattle.cluster_play.proofs.nodes.first_shard.Goals as goal

pub returns-in-Ok-start-clause-started : goal.returns-in-Ok-start-clause-started
returns-in-Ok-start-clause-started g c =
    let disk = c.check_new.new.disk in
    started_new ((d : g.row.D.Denot) → IsTrue (g.D.Disk.tells d)) (IsTrue (g.D.Disk.tells disk))
    c.args.shard c.in-Ok-start.node.node (g.D.Disk.seen disk) (λ tell. tell disk) c.in-Ok.ensures.new
    c.in-Ok-start.ensures.starts

pub returns-in-Err-start-clause-refused : goal.returns-in-Err-start-clause-refused
returns-in-Err-start-clause-refused g c =
    let told = (d : g.row.D.Denot) → IsTrue (g.D.Disk.tells d) in
    let disk = c.check_new.new.disk in
    shard_refused told (IsTrue (g.D.Disk.tells disk)) g.D.Disk.seen g.D.Disk.fault_count c.args.disk
    disk c.in-Err-start.refused.1 c.in-Err-start.refused.0 (λ tell. tell disk) c.in-Ok.ensures.new
    c.check_new.ensures.later c.in-Err-start.ensures.refused c.in-Err-start.ensures.fault
