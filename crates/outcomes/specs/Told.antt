-- Facts of what an object of the outside tells of itself. A source in memory tells the bytes that
-- it has left; standard input tells nothing, and then nothing is claimed.
use Rattle.std.specs.Prelude.{Option, Some, None}

-- the fact holds of what is told, where it is told
abbrev pub WhereKnown : {X : Type 0} → Option X → (X → Type 0) → Type 0
WhereKnown None P = Unit {0}
WhereKnown (Some x) P = P x
