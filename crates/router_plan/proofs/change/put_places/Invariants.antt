use Rattle.std.proofs.Common.{◌≡◌, length}
use Rattle.router_plan.specs.Plans.{replaced, FitIn}
use Rattle.router_plan.proofs.change.put_places.Given as goal

abbrev pub invariant-loop-place : goal.invariant-loop-place
invariant-loop-place l = record {
  put : replaced l.places.items l.sessions ≡ replaced l.initial.places.items l.initial.sessions;
  fit : FitIn (length l.sessions) l.places.items;
}

abbrev pub decreases-loop-place : goal.decreases-loop-place
decreases-loop-place l = length l.places.items
