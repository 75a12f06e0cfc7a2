-- What a reader of records gives.
use Rattle.std.specs.Prelude.{ℕ, Bool, true, false, Result}
use Rattle.outcomes.specs.Outcome as outcome
use Rattle.bson_core.specs.declared.error.BsonErr.{BsonErr}
use Rattle.bson_core.specs.declared.error.BsonErr.TheVariants as document
use Rattle.journal_rec.specs.declared.error.RecErr.{RecErr}
use Rattle.journal_rec.specs.declared.error.RecErr.TheVariants.{Bson, Memory}

-- the error of a document that begins at this place
abbrev pub from_document : ℕ → BsonErr → RecErr
from_document at document.Memory = Memory
from_document at fault = Bson at

-- out of memory, which no definition answers
abbrev pub is_memory : RecErr → Bool
is_memory Memory = true
is_memory other = false

-- what a function returned, seen by view, is this, unless memory ran out
abbrev pub Gives : {X Y : Type 0} → (X → Y) → Result X RecErr → Result Y RecErr → Type 0
Gives view result defined = outcome.Gives is_memory view result defined
