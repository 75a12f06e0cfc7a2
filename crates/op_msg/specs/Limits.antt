-- How long a message may be: a client's, and any, which counts those between nodes.
use Rattle.std.specs.Prelude.{ℕ}

-- a client's message has at most so many bytes
abbrev pub most_message : ℕ
most_message = 48000000

-- no message has more
abbrev pub most_internal : ℕ
most_internal = 400000000
