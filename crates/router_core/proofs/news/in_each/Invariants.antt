use Rattle.std.proofs.Common.{◌≡◌, drop, length}
use Rattle.router_state.specs.Deeds.{both, each_session}
use Rattle.router_plan.specs.Plans.{replaced, FitIn}
use Rattle.router_core.specs.News.{acts}
use Rattle.router_core.proofs.Each.{front}
use Rattle.router_core.proofs.news.in_each.Given as goal

abbrev pub invariant-loop-place : goal.invariant-loop-place
invariant-loop-place l = record {
  moved : replaced l.places.items l.sessions ≡ front (acts l.what) l.place l.sessions;
  given : both l.given (each_session (acts l.what) (drop l.place l.sessions)).1
      ≡ (each_session (acts l.what) l.sessions).1;
  fits : FitIn (length l.sessions) l.places.items;
}
