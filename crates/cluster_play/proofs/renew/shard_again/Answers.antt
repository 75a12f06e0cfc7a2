use Rattle.std.specs.Prelude.{IsTrue}
use Rattle.std.proofs.Common.{◌≤◌, arith}
use Rattle.cluster_play.proofs.Restarts.{starts_again}
use Rattle.cluster_play.proofs.renew.shard_again.Goals as goal

pub returns-in-Ok : goal.returns-in-Ok
returns-in-Ok g c =
    let disk = c.into_disk.result in
    let later : c.args.node.node.faults ≤ c.in-Ok.after.node.faults =
    omega (arith, c.into_disk.ensures.faults, c.in-Ok.ensures.later) in
    starts_again c.what_is_left_is_found.ensures ((d : g.row.D.Denot) → IsTrue (g.D.Disk.tells d))
    (IsTrue (g.D.Disk.tells disk)) c.args.shard c.args.node.node c.in-Ok.after.node
    c.args.node.log.hand (g.D.Disk.may_leave disk) (g.D.Disk.seen disk)
    (λ tell. tell disk) c.into_disk.ensures.left (λ tells. g.met.D.Disk.shown disk tells)
    c.into_disk.ensures.hand later c.in-Ok.ensures.starts
