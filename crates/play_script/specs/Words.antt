-- The words of a line, as the code holds them.
use Rattle.std.specs.Prelude.{◌≡◌, ◌<◌, ◌==◌, ℕ, List, [], ◌∷◌, length}
use Rattle.std.specs.List.{slice_split}
use Rattle.play_script.specs.declared.line.Words.{Words}
use Rattle.play_script.specs.declared.line.Words.TheVariants.{One, Two, Three, Many}

-- one space parts them
abbrev pub pieces : List ℕ → List (List ℕ)
pieces line = slice_split (λ b. b == 32) line

abbrev pub AreWords : Words → List ℕ → Type 0
AreWords (One word) line = pieces line ≡ word.now ∷ []
AreWords (Two word first) line = pieces line ≡ word.now ∷ first.now ∷ []
AreWords (Three word first second) line = pieces line ≡ word.now ∷ first.now ∷ second.now ∷ []
AreWords Many line = 3 < length (pieces line)
