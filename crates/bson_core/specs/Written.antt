-- What is written of a value or of a document is in the grammar, where its levels and its length
-- allow it.
use Rattle.std.specs.Prelude.{ℕ, ◌≤◌, List, length}
use Rattle.bson_core.specs.declared.value.Value.{Value}
use Rattle.bson_core.specs.Names.{IsName}
use Rattle.bson_core.specs.Spelling.{coded}
use Rattle.bson_core.specs.Grammar.{ReadsAt}
use Rattle.bson_core.specs.Nesting.{levels}

-- an int32 that isn't negative counts no more
abbrev pub most : ℕ
most = 2147483647

abbrev pub IsWritten : Value → Type 0
IsWritten value = (depth : ℕ) → levels value ≤ depth → length (coded value).1 ≤ most
    → ReadsAt depth value (coded value).0 (coded value).1

-- a name, and a value that is written so
abbrev pub IsFieldWritten : List ℕ × Value → Type 0
IsFieldWritten field = IsName field.0 × IsWritten field.1
