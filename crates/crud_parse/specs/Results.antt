-- What reading gives: a result, or the first refusal in the order of the elements.
use Rattle.std.specs.Prelude.{Bool, true, false, List, [], ◌∷◌, ◌++◌, Result, Ok, Err}
use Rattle.outcomes.specs.Bind.{◌>>=◌}
use Rattle.outcomes.specs.Outcome as outcome
use Rattle.crud_parse.specs.declared.error.CrudErr.{CrudErr}
use Rattle.crud_parse.specs.declared.error.CrudErr.TheVariants.{Memory}

-- out of memory, which no function on lists answers
abbrev pub is_memory : CrudErr → Bool
is_memory Memory = true
is_memory e = false

-- what a function returned, seen by view, is what reading gives, unless memory ran out
abbrev pub Gives : {X Y : Type 0} → (X → Y) → Result X CrudErr → Result Y CrudErr → Type 0
Gives view result read = outcome.Gives is_memory view result read

-- what was read before, and what is read after it
abbrev pub with_front : {B : Type 0} → List B → Result (List B) CrudErr → Result (List B) CrudErr
with_front front read = read >>= λ ys. Ok (front ++ ys)

-- what each of these gives, in their order
abbrev pub each : {A B : Type 0} → (A → Result B CrudErr) → List A → Result (List B) CrudErr
each read [] = Ok []
each read (x ∷ xs) = read x >>= λ y. with_front (y ∷ []) (each read xs)

-- what each of these gives, where that is a list
abbrev pub each_of : {A B : Type 0} → (A → Result (List B) CrudErr) → List A
    → Result (List B) CrudErr
each_of read [] = Ok []
each_of read (x ∷ xs) = read x >>= λ ys. with_front ys (each_of read xs)
