use Rattle.std.proofs.Common.{◌≡◌, ◌≤◌, ℕ, List, []}
use Rattle.node_server.specs.Acts.{calling}
use Rattle.node_server.specs.Ends.{Answered}
use Rattle.node_server.proofs.calling.answer.Given as goal

abbrev pub invariant-loop : goal.invariant-loop
invariant-loop g l = record {
  table : l.pass.table ≡ l.initial.pass.table;
  later : g.T.Talk.fault_count l.initial.talk ≤ g.T.Talk.fault_count l.talk;
  answered : (frame : List ℕ) → Answered g.T.Talk.makes g.T.Talk.carries g.M.Machine.takes
      l.initial.talk l.talk l.initial.pass.knows l.pass.knows l.initial.log l.log
      (calling frame l.initial.event) []
      (λ due bytes. (due ≡ calling frame l.event) × (bytes ≡ []));
}
