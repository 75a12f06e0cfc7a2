-- How long a schedule may be.
use Rattle.std.specs.Prelude.{ℕ}

-- a schedule has at most so many lines
abbrev pub most_lines : ℕ
most_lines = 10000000

-- a line has at most so many bytes
abbrev pub most_line : ℕ
most_line = 100000000
