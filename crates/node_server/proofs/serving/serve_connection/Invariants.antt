use Rattle.std.proofs.Common.{◌≡◌, ◌<◌, ◌^◌, []}
use Rattle.outside_core.specs.Bytes.{Went}
use Rattle.node_server.specs.Acts.{message}
use Rattle.node_server.specs.Ends.{tally, Later, Served}
use Rattle.node_server.proofs.serving.serve_connection.Given as goal

abbrev pub invariant-loop : goal.invariant-loop
invariant-loop g l = record {
  table : l.pass.table ≡ l.initial.pass.table;
  limit : l.incoming.feeder.limit ≡ g.T.Talk.frame_limit l.initial.talk;
  few : g.T.Talk.frame_limit l.initial.talk < 2 ^ 32;
  later : Later (tally (g.L.Link.fault_count l.initial.link) (g.L.Link.end_count l.initial.link)
      (g.T.Talk.fault_count l.initial.talk)) (tally (g.L.Link.fault_count l.link)
      (g.L.Link.end_count l.link) (g.T.Talk.fault_count l.talk));
  served : Served g.T.Talk.makes g.T.Talk.carries g.M.Machine.takes l.initial.talk l.talk
      l.initial.pass.knows l.pass.knows l.initial.log l.log (g.T.Talk.frame_limit l.initial.talk) []
      (g.L.Link.left l.initial.link) (g.L.Link.left l.link)
      (λ due rest bytes. (due ≡ message) × (rest ≡ l.incoming.feeder.held)
      × Went (g.L.Link.held l.initial.link) (g.L.Link.held l.link) bytes);
}
