-- How many documents and lists lie inside one another.
use Rattle.std.specs.Prelude.{ℕ, ◌+◌, max, List, [], ◌∷◌, map}
use Rattle.bson_core.specs.declared.value.Value.{Value}
use Rattle.bson_core.specs.declared.value.Value.TheOpen as of
use Rattle.bson_core.specs.declared.value.Value.TheOpen.{Value-F}
use Rattle.bson_core.specs.declared.value.Value.TheFolds.{fold-Value}
use Rattle.bson_core.specs.Fields.{Document}
use Rattle.bson_core.specs.Grammar.{values_of}

-- the greatest of some numbers, or 0
abbrev pub greatest : List ℕ → ℕ
greatest [] = 0
greatest (n ∷ ns) = max n (greatest ns)

-- the levels of a value: a document or a list is one level more than what it holds, any other value
-- is none
abbrev pub levels_step : Value-F ℕ → ℕ
levels_step (of.Doc fields) = 1 + greatest (map (λ field. field.1) fields)
levels_step (of.List values) = 1 + greatest values
levels_step leaf = 0

abbrev pub levels : Value → ℕ
levels = fold-Value ℕ levels_step

-- the levels of a document, itself included
abbrev pub nesting : Document → ℕ
nesting doc = 1 + greatest (map levels (values_of doc))
