-- A result up to out of memory. What a function gives is defined by a function on lists, which
-- takes no memory; the code answers the same, or that memory ran out.
use Rattle.std.specs.Prelude.{◌≡◌, Bool, Result, Ok, Err}
use Rattle.std.specs.Bool.{MatchBool}

-- an error is the defined one, or out of memory
abbrev pub Refuses : {Y E : Type 0} → (E → Bool) → E → Result Y E → Type 0
Refuses is_memory error defined = MatchBool (is_memory error) (Unit {0}) (defined ≡ Err error)

-- the result, seen by view, is the defined one, unless memory ran out
abbrev pub Gives : {X Y E : Type 0} → (E → Bool) → (X → Y) → Result X E → Result Y E → Type 0
Gives is_memory view (Ok x) defined = defined ≡ Ok (view x)
Gives is_memory view (Err error) defined = Refuses is_memory error defined
