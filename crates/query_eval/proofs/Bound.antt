-- One step after another: an error of the first is one of both, and what the second gives, both
-- give.
use Rattle.std.proofs.Common.{◌≡◌, Result, Ok, ap, subst}
use Rattle.outcomes.specs.Bind.{◌>>=◌}
use Rattle.txn_types.specs.declared.operation.What.{What}
use Rattle.query_eval.specs.declared.error.ApplyErr.{ApplyErr}
use Rattle.query_eval.specs.declared.error.ApplyErr.TheVariants.{NotNumber, Overflow, Immutable}
use Rattle.query_eval.specs.declared.error.ApplyErr.TheVariants.{TooLarge, Memory}
use Rattle.query_eval.specs.Refusals.{Tells}

pub tells_on : {A B : Type 0} (e : ApplyErr) (m : Result A What) (f : A → Result B What) → Tells e m
    → Tells e (m >>= f)
tells_on NotNumber m f h = ap (λ r. r >>= f) h
tells_on Overflow m f h = ap (λ r. r >>= f) h
tells_on Immutable m f h = ap (λ r. r >>= f) h
tells_on TooLarge m f h = ap (λ r. r >>= f) h
tells_on Memory m f h = tt

pub goes_on : {A B : Type 0} (a : A) (m : Result A What) (f : A → Result B What) → m ≡ Ok a
    → (m >>= f) ≡ f a
goes_on a m f h = ap (λ r. r >>= f) h

pub tells_same : {A : Type 0} (e : ApplyErr) (m n : Result A What) → m ≡ n → Tells e m → Tells e n
tells_same e m n is h = subst (Tells e) is h
