use Rattle.std.specs.Prelude.{IsTrue}
use Rattle.play_script.specs.Lines.{lines_of}
use Rattle.cluster_play.proofs.Saying.{disks_first}
use Rattle.cluster_play.proofs.play.play_lines.Goals as goal

pub returns-in-Ok-clause-disks : goal.returns-in-Ok-clause-disks
returns-in-Ok-clause-disks g c =
    c.play_front.ensures.disks (lines_of c.args.lines.now) c.in-Ok.ensures.front

pub returns-in-Err-clause-disks : goal.returns-in-Err-clause-disks
returns-in-Err-clause-disks g c =
    let told = (d : g.row.D.Denot) → IsTrue (g.D.Disk.tells d) in
    disks_first told g.D.Disk.seen g.D.Disk.fault_count (lines_of c.args.lines.now)
    c.args.disks.now.items c.args.disks.now.items (g.K.Sink.held c.args.out.now) c.in-Err.status
    c.in-Err.ensures.errors c.in-Err.ensures.front
