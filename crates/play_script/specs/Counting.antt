-- What a count of lines says of the bytes that it went through.
use Rattle.std.specs.Prelude.{◌≡◌, ℕ, ◌≤◌, List, [], ◌++◌, length}
use Rattle.std.specs.List.{All}
use Rattle.play_script.specs.Limits.{most_line, most_lines}
use Rattle.play_script.specs.Lines.{Lacks, lines_of}
use Rattle.play_script.specs.Input.{AreWhole}
use Rattle.play_script.specs.declared.input.LineCount.{LineCount}

-- no line has more than 100,000,000 bytes
abbrev pub AreShort : List ℕ → Type 0
AreShort text = All (λ line. length line ≤ most_line) (lines_of text)

-- the bytes are whole lines and one that has not ended, neither more nor longer than a schedule has
-- them, and the count tells how many, where they end, and how long the last is so far
pub record Counted (bytes : List ℕ) (count : LineCount) : Type 0 where
  pub front : List ℕ
  pub last : List ℕ
  pub parts : bytes ≡ front ++ last
  pub place : length front ≡ count.whole
  pub whole : AreWhole front
  pub ended : length (lines_of front) ≡ count.ended
  pub shorts : AreShort front
  pub unended : Lacks 10 last
  pub tail : length last ≡ count.tail
  pub few : count.ended ≤ most_lines
  pub short : count.tail ≤ most_line
  -- no line begins after the most lines
  pub full : count.ended ≡ most_lines → last ≡ []
