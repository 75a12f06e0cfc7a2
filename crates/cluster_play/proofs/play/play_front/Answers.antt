use Rattle.std.specs.Prelude.{IsTrue}
use Rattle.std.proofs.Common.{Ok, sym, ap, ◌∙◌, arith}
use Rattle.std.proofs.lemmas.List.{length-map}
use Rattle.play_script.specs.Lines.{lines_of}
use Rattle.cluster_play.specs.Schedule.{Schedule}
use Rattle.cluster_play.specs.Steps.{nodes_of}
use Rattle.cluster_play.proofs.Endings.{front_at, front_over}
use Rattle.cluster_play.proofs.Saying.{disks_before, disks_over}
use Rattle.cluster_play.proofs.play.play_front.Goals as goal

pub new-player-requires : goal.new-player-requires
new-player-requires g c = omega (arith, c.routers.ensures, c.shards.ensures.settings.some_routers)

pub play_over-requires-clause-shards : goal.play_over-requires-clause-shards
play_over-requires-clause-shards g c = omega (
  arith,
  c.in-Ok.ensures.started.shards,
  length-map c.in-Ok.nodes.shards.items (λ n. n.node),
  c.in-Ok.nodes.shards.ok.0,
  c.shards.ensures.settings.shards,
)

pub play_over-requires-clause-routers : goal.play_over-requires-clause-routers
play_over-requires-clause-routers g c = omega (
  arith,
  c.in-Ok.ensures.started.routers,
  length-map c.in-Ok.nodes.routers.items (λ n. n.router),
  c.in-Ok.nodes.routers.ok.0,
  c.shards.ensures.settings.routers,
)

pub returns-in-Ok-clause-ended : goal.returns-in-Ok-clause-ended
returns-in-Ok-clause-ended g c = λ lines reads.
    let s : Schedule = record {
      conf = c.front.inside.conf;
      taken = c.front.inside.taken;
      lines = lines_of c.front.inside.lines.now;
    } in
    front_over ((d : g.row.D.Denot) → IsTrue (g.D.Disk.tells d)) lines s
    (nodes_of c.in-Ok.nodes.shards.items c.in-Ok.nodes.routers.items)
    (g.K.Sink.held c.args.out.now) (g.K.Sink.held c.play_over.new.out) c.play_over.result
    c.map.result.now c.new-player.result c.shards.result c.routers.result
    (reads ∙ ap (λ (x : Schedule). Ok x) (sym c.front.view_is)) c.in-Ok.ensures.started
    c.map.ensures.map c.new-player.ensures c.shards.ensures.value c.routers.ensures
    c.play_over.ensures.ended

pub returns-in-Ok-clause-disks : goal.returns-in-Ok-clause-disks
returns-in-Ok-clause-disks g c = λ lines reads.
    let told = (d : g.row.D.Denot) → IsTrue (g.D.Disk.tells d) in
    let s : Schedule = record {
      conf = c.front.inside.conf;
      taken = c.front.inside.taken;
      lines = lines_of c.front.inside.lines.now;
    } in
    let start = nodes_of c.in-Ok.nodes.shards.items c.in-Ok.nodes.routers.items in
    disks_over told g.D.Disk.seen g.D.Disk.fault_count lines s start c.args.disks.now.items
    c.play_over.new.disks.items (g.K.Sink.held c.args.out.now) (g.K.Sink.held c.play_over.new.out)
    c.play_over.result (reads ∙ ap (λ (x : Schedule). Ok x) (sym c.front.view_is))
    c.in-Ok.ensures.started c.in-Ok.ensures.young
    (front_at told s start (g.K.Sink.held c.args.out.now) (g.K.Sink.held c.play_over.new.out)
    c.play_over.result c.map.result.now c.new-player.result c.shards.result c.routers.result
    c.map.ensures.map c.new-player.ensures c.shards.ensures.value c.routers.ensures
    c.play_over.ensures.ended)

pub returns-in-Err-clause-disks : goal.returns-in-Err-clause-disks
returns-in-Err-clause-disks g c = λ lines reads.
    let told = (d : g.row.D.Denot) → IsTrue (g.D.Disk.tells d) in
    let s : Schedule = record {
      conf = c.front.inside.conf;
      taken = c.front.inside.taken;
      lines = lines_of c.front.inside.lines.now;
    } in
    disks_before told g.D.Disk.seen g.D.Disk.fault_count lines s c.args.disks.now.items
    c.start.new.disks.items (g.K.Sink.held c.args.out.now) c.in-Err.status
    (reads ∙ ap (λ (x : Schedule). Ok x) (sym c.front.view_is)) c.in-Err.ensures.why
