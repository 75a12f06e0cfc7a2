use Rattle.std.specs.Prelude.{IsTrue}
use Rattle.cluster_play.proofs.Starts.{booted_new}
use Rattle.cluster_play.proofs.Refused.{router_refused}
use Rattle.cluster_play.proofs.nodes.first_router.Goals as goal

pub returns-in-Ok-start-clause-booted : goal.returns-in-Ok-start-clause-booted
returns-in-Ok-start-clause-booted g c =
    let disk = c.check_new.new.disk in
    booted_new ((d : g.row.D.Denot) → IsTrue (g.D.Disk.tells d)) (IsTrue (g.D.Disk.tells disk))
    c.args.router c.args.map c.in-Ok-start.node.router c.in-Ok-start.node.records
    (g.D.Disk.seen disk) (λ tell. tell disk) c.in-Ok.ensures.new c.in-Ok-start.ensures.starts

pub returns-in-Err-start-clause-refused : goal.returns-in-Err-start-clause-refused
returns-in-Err-start-clause-refused g c =
    let told = (d : g.row.D.Denot) → IsTrue (g.D.Disk.tells d) in
    let disk = c.check_new.new.disk in
    router_refused told (IsTrue (g.D.Disk.tells disk)) g.D.Disk.seen g.D.Disk.fault_count
    c.args.disk disk c.in-Err-start.refused.1 c.in-Err-start.refused.0 (λ tell. tell disk)
    c.in-Ok.ensures.new c.check_new.ensures.later c.in-Err-start.ensures.refused
    c.in-Err-start.ensures.fault
