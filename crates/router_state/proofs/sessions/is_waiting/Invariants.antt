use Rattle.std.proofs.Common.{◌≡◌, drop}
use Rattle.std.specs.List.{list_any}
use Rattle.router_state.specs.State.{asker_of, is_from}
use Rattle.router_state.proofs.sessions.is_waiting.Given as goal

abbrev pub invariant-loop-lsid : goal.invariant-loop-lsid
invariant-loop-lsid l =
    list_any (λ entry. is_from l.conn (asker_of entry.1.doing)) (drop l._lsid-index l.sessions)
    ≡ list_any (λ entry. is_from l.conn (asker_of entry.1.doing)) l.sessions
