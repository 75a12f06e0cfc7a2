use Rattle.std.proofs.Common.{◌⊎◌, ℕ, List, arith, ◌∙◌, subst}
use Rattle.outside_core.proofs.Moments.{still}
use Rattle.journal_core.specs.Starts.{EndsAt, FrameAt, UnfitAt}
use Rattle.journal_core.proofs.Walks.{walked_on, looks_then}
use Rattle.record_store.proofs.Counting.{header_of, stops}
use Rattle.record_store.proofs.frames.count_frames.Goals as goal

pub returns-in-None-clause-count : goal.returns-in-None-clause-count
returns-in-None-clause-count g c tells at is le =
    let w = c.loop-size.invariant in
    let file = g.D.Disk.seen c.args.disk.now in
    let none = rw c.in-None.is at c.in_ok-frame_at.ensures.none in
    stops file at c.loop-size.count c.loop-size.place is
    (w.walked tells (header_of file at le is)) (
    subst (λ (f : List ℕ). ((gate : ℕ) × EndsAt f c.loop-size.place gate)
    ⊎ UnfitAt f c.loop-size.place) (w.looks tells).same (none (still _ _ w.tells tells))
    )

pub loop-size-preserved : goal.loop-size-preserved
loop-size-preserved g c =
    let d = g.D.Disk in
    let w = c.loop-size.invariant in
    let found = rw c.in-Some.is at c.in_ok-frame_at.ensures.frame in
    record {
      tells = c.frame_at.ensures.tells ∙ w.tells;
      looks = λ t. looks_then d _ _ _ (w.looks t) (c.frame_at.ensures.looks (still _ _ w.tells t));
      later = omega (arith, w.later, c.frame_at.ensures.faults.later);
      inside = omega (arith, found.0);
      few = omega (arith, w.few);
      size = w.size;
      walked = λ t header.
          walked_on (d.seen c.args.disk.now) c.loop-size.count c.loop-size.place (w.walked t header)
          c.in-Some.size (
          subst (λ (f : List ℕ). FrameAt f c.loop-size.place c.in-Some.size) (w.looks t).same
          (found.1 (still _ _ w.tells t))
          );
    }
