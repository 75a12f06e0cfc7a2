use Rattle.std.proofs.Common.{◌≡◌, length, ap, sym, subst, ◌∙◌}
use Rattle.std.proofs.Math.ListN.{length-set}
use Rattle.router_plan.specs.Plans.{FitIn}
use Rattle.router_plan.proofs.Placing.{last_fits, put_behind}
use Rattle.router_plan.proofs.change.put_places.Goals as goal

pub set-requires : goal.set-requires
set-requires c =
    (last_fits (length c.loop-place.sessions) c.loop-place.places.items c.pop.new.self.items
    (c.in-Some.place, c.in-Some.entry) c.in-Some.ensures.items c.loop-place.invariant.fit).0

pub loop-place-preserved : goal.loop-place-preserved
loop-place-preserved c =
    let same : length c.set.new.self ≡ length c.loop-place.sessions = ap length c.set.ensures
    ∙ simp length-set in
    record {
      put = put_behind c.loop-place.places.items c.pop.new.self.items
          (c.in-Some.place, c.in-Some.entry) c.loop-place.sessions c.set.new.self
          c.in-Some.ensures.items c.set.ensures ∙ c.loop-place.invariant.put;
      fit = subst (λ n. FitIn n c.pop.new.self.items) (sym same)
          (last_fits (length c.loop-place.sessions) c.loop-place.places.items c.pop.new.self.items
          (c.in-Some.place, c.in-Some.entry) c.in-Some.ensures.items c.loop-place.invariant.fit).1;
    }
