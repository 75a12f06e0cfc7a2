use Rattle.std.proofs.Common.{◌≡◌, subst, ap}
use Rattle.outside_core.specs.Crash.{LeavesOnly}
use Rattle.outside_core.proofs.Moments.{still, then_goes}
use Rattle.journal_core.specs.Left.{Leaves}
use Rattle.journal_core.specs.State.{disk_of}
use Rattle.journal_cases.proofs.again.append_and_restart.Goals as goal

pub returns-clause-any_moment : goal.returns-clause-any_moment
returns-clause-any_moment g c tells opened =
    let d = g.D.Disk in
    let P = Leaves c.args.journal.frames c.args.payload.now in
    let new = c.append.new.self in
    let first = c.append.ensures.any_moment tells opened in
    let same : c.into_disk.result ≡ new.disk = c.into_disk.ensures in
    let tells_1 = still _ _ c.append.ensures.tells tells in
    let tells_2 = still _ _ (ap d.tells same) tells_1 in
    let second = c.start.ensures.any_moment tells_2 c.args.journal.frames c.args.payload.now
    (λ f now. first.each f (g.met.D.Disk.counts_now new.disk _ f tells_1 first.later
    (subst (λ x. d.may_leave x f) same now))) in
    then_goes d c.args.journal.disk new.disk (disk_of c.start.result) P P P first
    (subst (λ x. LeavesOnly d.moment d.left_since x (disk_of c.start.result) P) same second)
    (λ f here. here) (λ f here. here)
