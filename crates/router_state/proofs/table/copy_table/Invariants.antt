use Rattle.std.proofs.Common.{◌≡◌, take}
use Rattle.router_state.proofs.table.copy_table.Given as goal

abbrev pub invariant-loop-lsid : goal.invariant-loop-lsid
invariant-loop-lsid l = l.copy.items ≡ take l.lsid-index l.sessions
