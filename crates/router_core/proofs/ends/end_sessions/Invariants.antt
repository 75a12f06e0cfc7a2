use Rattle.std.proofs.Common.{◌≡◌, drop}
use Rattle.router_state.specs.Deeds.{both}
use Rattle.router_rules.specs.Ends.{end_sessions}
use Rattle.router_plan.specs.Plans.{state_of}
use Rattle.router_core.proofs.ends.end_sessions.Given as goal

abbrev pub invariant-loop-lsid : goal.invariant-loop-lsid
invariant-loop-lsid l = record {
  state : (end_sessions (state_of l.base l.chunks l.all) (drop l.lsid-index l.ids)).state
      ≡ (end_sessions (state_of l.base l.chunks l.sessions) l.ids).state;
  given : both l.given (end_sessions (state_of l.base l.chunks l.all) (drop l.lsid-index
      l.ids)).given ≡ (end_sessions (state_of l.base l.chunks l.sessions) l.ids).given;
}
