-- What a call of `apply` gives: the result that the definition has, or out of memory.
use Rattle.std.specs.Prelude.{◌≡◌, Option, Some, None, Result, Ok, Err}
use Rattle.txn_types.specs.declared.operation.What.{What}
use Rattle.txn_types.specs.declared.operation.What.TheVariants as what
use Rattle.query_eval.specs.declared.error.ApplyErr.{ApplyErr}
use Rattle.query_eval.specs.declared.error.ApplyErr.TheVariants.{NotNumber, Overflow, Immutable}
use Rattle.query_eval.specs.declared.error.ApplyErr.TheVariants.{TooLarge, Memory}

-- the error tells why the definition refuses; out of memory says nothing of it
abbrev pub Tells : {A : Type 0} → ApplyErr → Result A What → Type 0
Tells NotNumber means = means ≡ Err what.NotNumber
Tells Overflow means = means ≡ Err what.Overflow
Tells Immutable means = means ≡ Err what.Immutable
Tells TooLarge means = means ≡ Err what.TooLarge
Tells Memory means = Unit {0}

abbrev pub Gives : {A : Type 0} → Result A ApplyErr → Result A What → Type 0
Gives (Ok a) means = means ≡ Ok a
Gives (Err e) means = Tells e means

-- why an operation is refused, by the error of `apply`
abbrev pub told : ApplyErr → Option What
told NotNumber = Some what.NotNumber
told Overflow = Some what.Overflow
told Immutable = Some what.Immutable
told TooLarge = Some what.TooLarge
told Memory = None
