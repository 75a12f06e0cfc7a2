use Rattle.std.specs.Prelude.{IsTrue}
use Rattle.std.proofs.Common.{ℕ, List, subst, ◌∙◌}
use Rattle.play_script.specs.Lines.{lines_of}
use Rattle.cluster_play.specs.Ended.{Ended}
use Rattle.cluster_play.specs.Refusing.{DisksSay}
use Rattle.cluster_play.proofs.Unended.{whole_alone}
use Rattle.cluster_play.proofs.play.play_input.Goals as goal

pub returns-in-Some-clause-whole : goal.returns-in-Some-clause-whole
returns-in-Some-clause-whole g c = λ whole ok.
    let told = (d : g.row.D.Denot) → IsTrue (g.D.Disk.tells d) in
    let held = g.K.Sink.held c.args.out.now in
    let held' = g.K.Sink.held c.play_lines.new.out in
    whole_alone told c.args.input.bytes.items c.args.input.end held held' c.play_lines.result whole
    (subst (λ (b : List ℕ). Ended told (lines_of b) held held' c.play_lines.result)
    (c.deref.ensures.value ∙ c.in-Some.ensures) c.play_lines.ensures.ended) ok

pub returns-in-Some-clause-disks : goal.returns-in-Some-clause-disks
returns-in-Some-clause-disks g c =
    let told = (d : g.row.D.Denot) → IsTrue (g.D.Disk.tells d) in
    subst (λ (b : List ℕ). DisksSay told g.D.Disk.seen g.D.Disk.fault_count (lines_of b)
    c.args.disks.now.items c.play_lines.new.disks.items (g.K.Sink.held c.args.out.now)
    (g.K.Sink.held c.play_lines.new.out) c.play_lines.result)
    (c.deref.ensures.value ∙ c.in-Some.ensures) c.play_lines.ensures.disks
