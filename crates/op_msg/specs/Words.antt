-- The numbers of a message's header.
use Rattle.std.specs.Prelude.{ℕ, List}
use Rattle.std.specs.Int.{w32, to_le_bytes}

-- an int32 or uint32 as four bytes, the lowest first
unfoldable pub word : ℕ → List ℕ
word n = to_le_bytes w32 n
