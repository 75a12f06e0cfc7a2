use Rattle.std.specs.Prelude.{IsTrue}
use Rattle.cluster_play.proofs.Doing.{event_done, deliver_done}
use Rattle.cluster_play.proofs.turn.act.Goals as goal

pub returns-in-Event-clause-done : goal.returns-in-Event-clause-done
returns-in-Event-clause-done g c = event_done c.act_at.result ((d : g.row.D.Denot)
    → IsTrue (g.D.Disk.tells d)) c.args.map.now c.args.player.now c.act_at.new.player
    c.of-given.result c.args.want c.wall-wall.result c.in-Event.node c.in-Event.happening
    c.args.world.now.nodes c.act_at.new.world.nodes c.args.text.now.items c.act_at.new.text.items
    c.in-Event.is c.wall-wall.ensures c.of-given.ensures c.act_at.ensures.comes

pub returns-in-Deliver-clause-done : goal.returns-in-Deliver-clause-done
returns-in-Deliver-clause-done g c = deliver_done c.act_at-in-Deliver.result ((d : g.row.D.Denot)
    → IsTrue (g.D.Disk.tells d)) c.args.map.now c.args.player.now c.act_at-in-Deliver.new.player
    c.of-given.result c.args.want c.wall-wall.result c.in-Deliver.number c.args.world.now.nodes
    c.act_at-in-Deliver.new.world.nodes c.args.text.now.items c.act_at-in-Deliver.new.text.items
    c.in-Deliver.is c.wall-wall.ensures c.of-given.ensures c.act_at-in-Deliver.ensures.comes
