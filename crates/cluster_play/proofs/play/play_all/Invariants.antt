use Rattle.std.proofs.Common.{◌≡◌, ◌≤◌, false}
use Rattle.std.specs.Prelude.{IsTrue}
use Rattle.cluster_world.specs.World.{AsMany}
use Rattle.cluster_play.proofs.Turns.{Progress}
use Rattle.cluster_play.proofs.play.play_all.Given as goal

abbrev pub invariant-loop : goal.invariant-loop
invariant-loop g l = record {
  live : l.world.spent ≡ false;
  progress : Progress ((d : g.row.D.Denot) → IsTrue (g.D.Disk.tells d)) l.map l.initial.player
      l.initial.world.nodes (g.K.Sink.held l.initial.out) l.player l.world.nodes
      (g.K.Sink.held l.out);
  nodes : AsMany l.initial.world.nodes l.world.nodes;
  later : g.K.Sink.fault_count l.initial.out ≤ g.K.Sink.fault_count l.out;
}
