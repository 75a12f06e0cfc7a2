use Rattle.std.proofs.Common.{◌≡◌, ◌≤◌}
use Rattle.node_server.proofs.Fetching.{Fetching}
use Rattle.node_server.proofs.incoming.Incoming.next.Given as goal

abbrev pub invariant-loop : goal.invariant-loop
invariant-loop g l = record {
  limit : l.self.feeder.limit ≡ l.initial.self.feeder.limit;
  held : g.L.Link.held l.link ≡ g.L.Link.held l.initial.link;
  faults : g.L.Link.fault_count l.initial.link ≤ g.L.Link.fault_count l.link;
  ends : g.L.Link.end_count l.initial.link ≤ g.L.Link.end_count l.link;
  came : Fetching l.initial.self.feeder.held l.self.feeder.held (g.L.Link.left l.initial.link)
      (g.L.Link.left l.link);
}
