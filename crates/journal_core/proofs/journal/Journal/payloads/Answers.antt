use Rattle.std.proofs.Common.{◌≡◌, ◌<◌, ◌++◌, [], false, arith, ap, subst, get_or, map, ◌∙◌, inl}
use Rattle.std.proofs.Common.{inr}
use Rattle.std.specs.Prelude.{IsTrue}
use Rattle.outside_core.proofs.Moments.{still}
use Rattle.journal_core.specs.Left.{IsAtRest}
use Rattle.journal_core.proofs.Gathering.{here, before_end, next_at, next_got}
use Rattle.journal_core.proofs.Walks.{looks_then}
use Rattle.journal_core.proofs.journal.Journal.payloads.Goals as goal

pub loop-i-preserved : goal.loop-i-preserved
loop-i-preserved g c =
    let d = g.D.Disk in
    let first = c.args.self.now in
    let now = c.loop-i.self in
    let all = c.loop-i.all.items in
    let w = c.loop-i.invariant in
    let at_rest : IsTrue (d.tells first.disk) → first.closed ≡ false
    → IsAtRest (d.seen first.disk) (d.may_leave first.disk) first.frames first.count first.end =
    subst (λ s. IsTrue (d.tells s.disk) → s.closed ≡ false → IsAtRest (d.seen s.disk)
    (d.may_leave s.disk) s.frames s.count s.end) c.self.view_is c.self.invariant.rests in
    let lt : c.loop-i._i < first.count =
    omega (arith, c.loop-i-test.true, ap (λ s. s.count) c.self.view_is) in
    let payload = get_or first.frames c.loop-i._i [] in
    record {
      tells = c.read.ensures.tells ∙ w.tells;
      later = omega (arith, w.later, c.read.ensures.faults.later);
      counts = c.read.ensures.same.0 ∙ w.counts;
      ends = c.read.ensures.same.1 ∙ w.ends;
      closed = (
        λ now_closed. w.closed.0 (elim (c.in_ok-place.ensures.closes.0 now_closed)
            [ inl was ↦ was | inr failed ↦ cc ]),
        λ was. c.read.ensures.closes.1 (inl (w.closed.1 was)),
      );
      frames = λ t. (c.read.ensures.looks (still _ _ w.tells t)).0 ∙ w.frames t;
      looks = λ t. looks_then d first.disk now.disk c.read.new.self.disk (w.looks t)
          (c.read.ensures.looks (still _ _ w.tells t)).1;
      at = λ t opened.
          let rests = at_rest t opened in
          let read = c.in_ok-place.ensures.payload (still _ _ w.tells t) payload (here d first
          now all c.loop-i.place c.loop-i._i w t opened rests lt) (before_end d first now all
          c.loop-i.place c.loop-i._i w t opened rests lt) in
          next_at d first now all c.loop-i.place c.loop-i._i w t opened rests lt _ read.0;
      got = λ t opened.
          let rests = at_rest t opened in
          let read = c.in_ok-place.ensures.payload (still _ _ w.tells t) payload (here d first
          now all c.loop-i.place c.loop-i._i w t opened rests lt) (before_end d first now all
          c.loop-i.place c.loop-i._i w t opened rests lt) in
          ap (λ l. map (λ p. p.items) l) c.in-Ok.ensures.items
          ∙ next_got d first now all c.loop-i.place c.loop-i._i w t opened rests lt
          c.read.new.out (read.1 ∙ ap (λ l. l ++ payload) c.new-payload.ensures.items);
    }
