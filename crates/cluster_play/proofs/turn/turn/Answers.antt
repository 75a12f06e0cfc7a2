use Rattle.std.specs.Prelude.{IsTrue}
use Rattle.cluster_play.proofs.Doing.{turned, turn_stops}
use Rattle.cluster_play.proofs.turn.turn.Goals as goal

pub returns-in-Ok-act_and_write-clause-turned : goal.returns-in-Ok-act_and_write-clause-turned
returns-in-Ok-act_and_write-clause-turned g c =
    turned ((d : g.row.D.Denot) → IsTrue (g.D.Disk.tells d)) c.args.map.now
    c.args.player.now c.next.new.player c.act_and_write.new.player c.in-Ok.want
    c.args.world.now.nodes c.act_and_write.new.world.nodes (g.K.Sink.held c.args.out.now)
    (g.K.Sink.held c.next.new.out) (g.K.Sink.held c.act_and_write.new.out)
    c.in-Ok.ensures.next.0 c.in-Ok.ensures.next.1 c.in-Ok.ensures.whole
    c.in-Ok-act_and_write.ensures.acts

pub returns-in-Err-act_and_write-clause-stop : goal.returns-in-Err-act_and_write-clause-stop
returns-in-Err-act_and_write-clause-stop g c =
    turn_stops ((d : g.row.D.Denot) → IsTrue (g.D.Disk.tells d)) c.args.map.now c.args.player.now
    c.next.new.player c.in-Ok.want c.args.world.now.nodes (g.K.Sink.held c.args.out.now)
    (g.K.Sink.held c.next.new.out) (g.K.Sink.held c.act_and_write.new.out)
    c.in-Err-act_and_write.stop
    c.in-Ok.ensures.next.0 c.in-Ok.ensures.next.1 c.in-Ok.ensures.whole
    c.in-Err-act_and_write.ensures.stop
