use Rattle.std.proofs.Common.{ℕ, refl, arith, length-take}
use Rattle.mtx.proofs.stdio.ReaderSourceSource.read.Goals as goal

pub returns-in-Ok-clause-bytes : goal.returns-in-Ok-clause-bytes
returns-in-Ok-clause-bytes g c =
    let w = c.in-Ok.ensures.moved in (
      w.0,
      w.1,
      w.2,
      omega (arith, c.in-Ok.ensures.bound, c.min-most.ensures, length-take {A = ℕ}),
      refl,
      λ _ _. tt,
    )
