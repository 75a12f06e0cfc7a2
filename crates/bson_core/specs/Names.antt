-- Names of fields. In BSON 1.1 (bsonspec.org) a name is a cstring: bytes in UTF-8 that are no 00,
-- and then a 00.
use Rattle.std.specs.Prelude.{◌≡◌, ℕ, ◌==◌, Bool, true, not, List}
use Rattle.std.specs.List.{list_all}
use Rattle.std.specs.Str.{is_utf8}

-- no byte is the 00 that ends a name
abbrev pub has_no_zero : List ℕ → Bool
has_no_zero bytes = list_all (λ b. not (b == 0)) bytes

-- the bytes are a name
abbrev pub IsName : List ℕ → Type 0
IsName name = (is_utf8 name ≡ true) × (has_no_zero name ≡ true)
