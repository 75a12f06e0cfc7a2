use Rattle.std.proofs.Common.{inr, arith, refl}
use Rattle.journal_core.proofs.Walks.{unfit_at, frame_at}
use Rattle.record_store.proofs.frames.frame_at.Goals as goal

pub returns-then-len-place-clause-none : goal.returns-then-len-place-clause-none
returns-then-len-place-clause-none g c tells =
    inr (unfit_at (g.D.Disk.seen c.args.disk.now) c.read_at.new.out _ c.args.place
    _ (omega (arith, c.requires.length tells, c.requires.inside)) refl
    (c.in_ok-read_at.ensures.count tells) (c.in_ok-read_at.ensures.bytes tells)
    c.told_size-size.result c.if-front.false c.told_size-size.ensures.value
    (omega (arith, c.requires.length tells, c.if-len-place.true)))

pub returns-clause-frame : goal.returns-clause-frame
returns-clause-frame g c = (
  omega (arith, c.if-len-place.false),
  λ tells.
      frame_at (g.D.Disk.seen c.args.disk.now) c.read_at.new.out _ c.args.place
      _ (omega (arith, c.requires.length tells, c.requires.inside))
      refl (c.in_ok-read_at.ensures.count tells)
      (c.in_ok-read_at.ensures.bytes tells) c.told_size-size.result c.if-front.false
      c.told_size-size.ensures.bytes c.told_size-size.ensures.small
      (omega (arith, c.requires.length tells, c.if-len-place.false)),
)
