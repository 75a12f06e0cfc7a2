use Rattle.std.proofs.Common.{ℕ, List, Option, Vec, length, ap, sym, subst, ◌∙◌}
use Rattle.txn_types.specs.declared.node.Lsid.{Lsid}
use Rattle.router_state.specs.declared.deed.Deed.{Deed}
use Rattle.router_state.specs.declared.state.Session.{Session}
use Rattle.router_plan.specs.Plans.{FitIn}
use Rattle.std.specs.Prelude.{unwrap_or}
use Rattle.router_state.specs.Deeds.{stays, each_session}
use Rattle.router_core.specs.News.{acts}
use Rattle.router_core.proofs.Each.{safe_at, placed_on, fits_on, given_on, placed_still}
use Rattle.router_core.proofs.Each.{given_still, all_placed}
use Rattle.router_core.proofs.news.in_each.Goals as goal
use Rattle.router_core.proofs.news.in_each.Goals.{in-Some+in_ok-insert+in_ok-given, in_default}

pub acts-requires : goal.acts-requires
acts-requires c = (safe_at c.args.base.now.serial c.loop-place.place c.args.sessions.now
    c.index-sessions-place.result c.index-sessions-place.is c.loop-place-test.true c.requires).doing

pub loop-place-preserved : goal.loop-place-preserved
loop-place-preserved c = elim c.match-branch-2.branch [
  | in-Some+in_ok-insert+in_ok-given w ↦ (
      let acted = ap (λ (o : Option Deed). unwrap_or o (stays c.index-sessions-place.result.1))
      (sym w.in-Some.is) ∙ c.in_ok-deed.ensures in
      let put = ap (λ (v : Vec (ℕ × (Lsid × Session)) _). v.items) w.places-is
      ∙ w.in_ok-insert.ensures.items in
      record {
        moved = placed_on (acts c.args.what.now) c.loop-place.place c.args.sessions.now
            c.index-sessions-place.result w.in-Some.deed c.loop-place.places.items
            c.match-branch-2.places.items c.index-sessions-place.is c.loop-place-test.true acted
            c.loop-place.invariant.moved put;
        given = given_on (acts c.args.what.now) c.loop-place.place c.args.sessions.now
            c.index-sessions-place.result w.in-Some.deed c.loop-place.given c.match-branch-2.given
            (each_session (acts c.args.what.now) c.args.sessions.now).1 c.index-sessions-place.is
            c.loop-place-test.true acted c.loop-place.invariant.given (w.given-is
            ∙ w.in_ok-given.ensures);
        fits = fits_on (length c.args.sessions.now) c.loop-place.place
            (c.index-sessions-place.result.0, w.in-Some.deed.session) c.loop-place.places.items
            c.match-branch-2.places.items c.loop-place-test.true c.loop-place.invariant.fits put;
      })
  | in_default w ↦ (
      let acted = ap (λ (o : Option Deed). unwrap_or o (stays c.index-sessions-place.result.1))
      (sym w.in_default.is) ∙ c.in_ok-deed.ensures in
      let same = ap (λ (v : Vec (ℕ × (Lsid × Session)) _). v.items) w.places-is in
      record {
        moved = placed_still (acts c.args.what.now) c.loop-place.place
            c.args.sessions.now c.index-sessions-place.result c.loop-place.places.items
            c.match-branch-2.places.items c.index-sessions-place.is c.loop-place-test.true acted
            c.loop-place.invariant.moved same;
        given = given_still (acts c.args.what.now) c.loop-place.place c.args.sessions.now
            c.index-sessions-place.result c.loop-place.given c.match-branch-2.given
            (each_session (acts c.args.what.now) c.args.sessions.now).1 c.index-sessions-place.is
            c.loop-place-test.true acted c.loop-place.invariant.given w.given-is;
        fits = subst (λ (ps : List (ℕ × (Lsid × Session))). FitIn (length c.args.sessions.now) ps)
            (sym same) c.loop-place.invariant.fits;
      })
]

pub returns-clause-moved : goal.returns-clause-moved
returns-clause-moved c =
    all_placed (acts c.args.what.now) c.args.chunks.now c.args.sessions.now c.args.base.now
    c.copy.result c.loop-place.places.items c.loop-place.given c.loop-place.place
    c.loop-place-test.false c.copy.ensures c.loop-place.invariant.moved c.loop-place.invariant.given
