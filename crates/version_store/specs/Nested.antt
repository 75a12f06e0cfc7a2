-- Lists by keys in two parts, kept by the first part, and in it by the second.
use Rattle.std.specs.Prelude.{List, [], ◌∷◌, ◌++◌, map}

-- what stands under the second parts, under both
abbrev pub under_first : {A B V : Type 0} → A → List (B × V) → List ((A × B) × V)
under_first a rows = map (λ row. ((a, row.0), row.1)) rows

-- the one list of both
abbrev pub flattened : {A B V : Type 0} → List (A × List (B × V)) → List ((A × B) × V)
flattened [] = []
flattened (group ∷ groups) = under_first group.0 group.1 ++ flattened groups
