-- Names of operators and of fields. In the MongoDB manual the names of operators begin with a
-- dollar sign, and a full stop in a name makes it a path.
use Rattle.std.specs.Prelude.{ℕ, ◌==◌, Bool, false, List, [], ◌∷◌}
use Rattle.std.specs.List.{list_any}
use Rattle.bson_core.specs.Fields.{Document}

abbrev pub begins_with_dollar : List ℕ → Bool
begins_with_dollar [] = false
begins_with_dollar (byte ∷ bytes) = byte == 36

abbrev pub has_full_stop : List ℕ → Bool
has_full_stop name = list_any (λ byte. byte == 46) name

-- the first name of the document is named as an operator is
abbrev pub begins_with_operator : Document → Bool
begins_with_operator [] = false
begins_with_operator (field ∷ fields) = begins_with_dollar field.0
