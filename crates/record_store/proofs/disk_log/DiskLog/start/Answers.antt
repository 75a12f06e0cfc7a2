use Rattle.outside_core.proofs.Moments.{still}
use Rattle.journal_core.specs.Left.{Leaves}
use Rattle.record_store.specs.Found.{disk_in}
use Rattle.record_store.proofs.Leaving.{looked}
use Rattle.record_store.proofs.disk_log.DiskLog.start.Goals as goal

pub returns-in-Ok-clause-any_moment : goal.returns-in-Ok-clause-any_moment
returns-in-Ok-clause-any_moment g c tells frames hand left =
    let d = g.D.Disk in
    let begun = c.in-Ok.journal.disk in
    let run = c.in-Ok.ensures.any_moment tells frames hand left in
    let now = still _ _ c.in-Ok.ensures.tells tells in
    looked d c.args.disk begun (disk_in c.of.result) (Leaves frames hand) run
    (λ t f le leave. g.met.D.Disk.counts_now begun t f now le leave) (c.of.ensures.looks now)
