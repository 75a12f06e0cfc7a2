use Rattle.std.specs.Prelude.{IsTrue}
use Rattle.cluster_play.proofs.Reboots.{boots_again}
use Rattle.cluster_play.proofs.renew.router_again.Goals as goal

pub returns-in-Ok : goal.returns-in-Ok
returns-in-Ok g c =
    let disk = c.into_disk.result in
    boots_again c.what_is_left_is_found.ensures ((d : g.row.D.Denot) → IsTrue (g.D.Disk.tells d))
    (IsTrue (g.D.Disk.tells disk)) c.args.map c.args.router c.args.node.router
    c.in-Ok.after.router c.args.node.records c.in-Ok.after.records c.args.node.log.hand
    (g.D.Disk.may_leave disk) (g.D.Disk.seen disk) (λ tell. tell disk) c.into_disk.ensures.left
    (λ tells. g.met.D.Disk.shown disk tells) c.into_disk.ensures.whole c.into_disk.ensures.boots
    c.in-Ok.ensures.starts
