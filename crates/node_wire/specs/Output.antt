-- What was written of the bytes `b` of a message: a message has at most 400,000,000 bytes, and
-- beside `b` it has 56, which are 16 of the header, 4 of flags, 1 of the section's kind and 35 of
-- the body.
use Rattle.std.specs.Prelude.{ℕ, List, [], ◌∷◌, ◌++◌, length, nat_lt, Option, Some, None}
use Rattle.std.specs.Prelude.{if◌then◌else◌}

abbrev pub most_content : ℕ
most_content = 399999944

-- the bytes, where they are no more
unfoldable pub within : List ℕ → Option (List ℕ)
within bytes = if nat_lt most_content (length bytes) then None else Some bytes

-- with these after what was written: nothing stands any more once it was too much
unfoldable pub joined : Option (List ℕ) → List ℕ → Option (List ℕ)
joined written [] = written
joined None (byte ∷ more) = None
joined (Some bytes) (byte ∷ more) = within (bytes ++ byte ∷ more)
