use Rattle.std.proofs.Common.{◌≡◌, drop}
use Rattle.txn_types.specs.BySession.{entry_of}
use Rattle.router_state.proofs.sessions.entry_of.Given as goal

abbrev pub invariant-loop-other : goal.invariant-loop-other
invariant-loop-other l =
    entry_of l.lsid (drop l.other-index l.sessions) ≡ entry_of l.lsid l.sessions
