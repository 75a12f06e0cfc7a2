-- What is read of a schedule: all of it, or the whole lines in front of where a schedule can't be
-- served further.
use Rattle.std.specs.Prelude.{◌≡◌, ℕ, ◌≤◌, ◌<◌, List, [], ◌∷◌, ◌++◌, ◌⊎◌, length, Option, Some}
use Rattle.play_script.specs.Limits.{most_line, most_lines}
use Rattle.play_script.specs.Lines.{Lacks, lines_of}
use Rattle.play_script.specs.declared.input.End.{End}
use Rattle.play_script.specs.declared.input.End.TheVariants.{Whole, LongLine, ManyLines}

-- lines that are all ended
abbrev pub AreWhole : List ℕ → Type 0
AreWhole text = (text ≡ []) ⊎ ((front : List ℕ) × (text ≡ front ++ 10 ∷ []))

-- it begins with a line of more than 100,000,000 bytes
pub record BeginsLong (text : List ℕ) : Type 0 where
  pub long : List ℕ
  pub behind : List ℕ
  pub parts : text ≡ long ++ behind
  pub unended : Lacks 10 long
  pub many : most_line < length long

-- the bytes are the whole input, or the lines in front of one that is too long, or the first
-- 10,000,000 of more
abbrev pub IsInput : List ℕ → List ℕ → End → Type 0
IsInput input bytes Whole = (bytes ≡ input) × (length (lines_of bytes) ≤ most_lines)
IsInput input bytes LongLine = (rest : List ℕ) × (input ≡ bytes ++ rest) × AreWhole bytes
    × (length (lines_of bytes) < most_lines) × BeginsLong rest
IsInput input bytes ManyLines = (rest : List ℕ) × (input ≡ bytes ++ rest) × AreWhole bytes
    × (length (lines_of bytes) ≡ most_lines) × (0 < length rest)

-- nothing is left after the whole input
abbrev pub IsAtEnd : Option (List ℕ) → End → Type 0
IsAtEnd left Whole = left ≡ Some []
IsAtEnd left LongLine = Unit {0}
IsAtEnd left ManyLines = Unit {0}
