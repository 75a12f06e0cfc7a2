-- The words of the command line. The only command so far is `play`.
use Rattle.std.specs.Prelude.{ℕ, List, [], ◌∷◌, Option, Some, None, if◌then◌else◌, codes}
use Rattle.std.specs.Str.{bytes_eq}

-- the word `play`
abbrev pub play : List ℕ
play = codes "play"

-- the words after `play`: there are none
abbrev pub behind_play : List (List ℕ) → Option ℕ
behind_play [] = None
behind_play (word ∷ words) = Some 1

-- the place of the first word that can't continue a command, or how many there are
abbrev pub word_at_fault : List (List ℕ) → Option ℕ
word_at_fault [] = Some 0
word_at_fault (word ∷ words) = if bytes_eq word play then behind_play words else Some 0
