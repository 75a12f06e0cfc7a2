use Rattle.std.specs.Prelude.{IsTrue}
use Rattle.std.proofs.Common.{◌∙◌, refl, inl, arith}
use Rattle.cluster_play.specs.Plays.{next_at}
use Rattle.cluster_play.proofs.Texts.{part_none}
use Rattle.cluster_play.proofs.Turns.{progress_ends, progress_stops, stops_later, progress_more}
use Rattle.cluster_play.proofs.Turns.{progress_cut}
use Rattle.cluster_play.proofs.play.play_all.Goals as goal

pub returns-in-Ok-Some-clause-played : goal.returns-in-Ok-Some-clause-played
returns-in-Ok-Some-clause-played g c =
    progress_ends ((d : g.row.D.Denot) → IsTrue (g.D.Disk.tells d)) c.args.map.now
    c.args.player.now c.loop.player c.turn.new.player c.args.world.now.nodes c.loop.world.nodes
    c.turn.new.world.nodes (g.K.Sink.held c.args.out.now) (g.K.Sink.held c.loop.out)
    (g.K.Sink.held c.turn.new.out) c.in-Ok-Some.status c.loop.invariant.progress
    (rw c.in-Ok-Some.field-0-is at c.in-Ok-Some.ensures.turned)

pub returns-in-Err-clause-stop : goal.returns-in-Err-clause-stop
returns-in-Err-clause-stop g c =
    progress_stops ((d : g.row.D.Denot) → IsTrue (g.D.Disk.tells d)) c.args.map.now
    c.args.player.now c.loop.player c.args.world.now.nodes c.loop.world.nodes
    (g.K.Sink.held c.args.out.now) (g.K.Sink.held c.loop.out) (g.K.Sink.held c.turn.new.out)
    c.in-Err.stop c.loop.invariant.progress c.in-Err.ensures.stop

pub returns-in-Err-clause-nodes : goal.returns-in-Err-clause-nodes
returns-in-Err-clause-nodes g c = stops_later c.args.world.now.nodes c.loop.world.nodes
    c.turn.new.world.nodes c.in-Err.stop c.loop.invariant.nodes c.in-Err.ensures.nodes

pub loop-preserved : goal.loop-preserved
loop-preserved g c = record {
  live = c.in-Ok-None.ensures.live;
  progress = progress_more ((d : g.row.D.Denot)
      → IsTrue (g.D.Disk.tells d)) c.args.map.now c.args.player.now c.loop.player
      c.turn.new.player c.args.world.now.nodes c.loop.world.nodes c.turn.new.world.nodes
      (g.K.Sink.held c.args.out.now) (g.K.Sink.held c.loop.out) (g.K.Sink.held c.turn.new.out)
      c.loop.invariant.progress (rw c.in-Ok-None.field-0-is at c.in-Ok-None.ensures.turned);
  nodes = record {
    shards = c.in-Ok-None.ensures.nodes.shards ∙ c.loop.invariant.nodes.shards;
    routers = c.in-Ok-None.ensures.nodes.routers ∙ c.loop.invariant.nodes.routers;
  };
  later = omega (arith, c.loop.invariant.later, c.turn.ensures.later);
}

pub returns-clause-stop : goal.returns-clause-stop
returns-clause-stop g c =
    let held = g.K.Sink.held c.loop.out in
    let text = (next_at c.args.map.now c.loop.world.nodes c.loop.player).0 in
    progress_cut ((d : g.row.D.Denot) → IsTrue (g.D.Disk.tells d)) c.args.map.now c.args.player.now
    c.loop.player c.args.world.now.nodes c.loop.world.nodes (g.K.Sink.held c.args.out.now) held
    held text c.loop.invariant.progress (inl refl) (part_none held text)
