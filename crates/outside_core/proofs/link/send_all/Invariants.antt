use Rattle.std.proofs.Common.{◌≡◌, ◌≤◌, length}
use Rattle.outside_core.proofs.Steps.{Writing}
use Rattle.outside_core.proofs.link.send_all.Given as goal

abbrev pub invariant-loop-rest : goal.invariant-loop-rest
invariant-loop-rest g l = record {
  later : g.L.Link.fault_count l.initial.link ≤ g.L.Link.fault_count l.link;
  ends : g.L.Link.end_count l.initial.link ≤ g.L.Link.end_count l.link;
  left : g.L.Link.left l.link ≡ g.L.Link.left l.initial.link;
  wrote : Writing (g.L.Link.held l.initial.link) (g.L.Link.held l.link) l.bytes l.rest;
}

abbrev pub decreases-loop-rest : goal.decreases-loop-rest
decreases-loop-rest g l = length l.rest
