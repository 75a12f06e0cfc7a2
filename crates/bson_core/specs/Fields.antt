-- The fields of a document, by name. A name may stand more than once; the first counts.
use Rattle.std.specs.Prelude.{ℕ, List, [], ◌∷◌, Option, Some, None, if◌then◌else◌}
use Rattle.std.specs.Str.{bytes_eq}
use Rattle.bson_core.specs.declared.value.Value.{Value}

-- a document: names and values, in their order
abbrev pub Document : Type 0
Document = List (List ℕ × Value)

-- the first value of that name
abbrev pub value_of : List ℕ → Document → Option Value
value_of name [] = None
value_of name (field ∷ fields) = if bytes_eq field.0 name then Some field.1
    else value_of name fields

-- the document with the value in place of the first of that name, or after the others
abbrev pub with_value : List ℕ → Value → Document → Document
with_value name value [] = (name, value) ∷ []
with_value name value (field ∷ fields) = if bytes_eq field.0 name then (name, value) ∷ fields
    else field ∷ with_value name value fields
