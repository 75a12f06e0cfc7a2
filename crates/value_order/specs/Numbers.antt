-- Numbers among the values.
use Rattle.std.specs.Prelude.{ℤ, Option, Some, None}
use Rattle.bson_core.specs.declared.value.Value.{Value}
use Rattle.bson_core.specs.declared.value.Value.TheOpen as of
use Rattle.bson_core.specs.declared.value.Value.TheOpen.{Value-F}
use Rattle.bson_core.specs.declared.value.Value.TheViews.{out-Value, roll-Value}
use Rattle.bson_core.specs.declared.value.Value.TheFolds.{fold-Value}

abbrev pub number_of_kind : Value-F Value → Option ℤ
number_of_kind (of.Int n) = Some n
number_of_kind (of.Long n) = Some n
number_of_kind other = None

-- the number that a value is, where it is one
abbrev pub number_in : Value → Option ℤ
number_in value = number_of_kind (out-Value value)

abbrev pub as_long : Value-F Value → Value-F Value
as_long (of.Int n) = of.Long n
as_long other = other

-- the value with each Int in it, at any depth, made the Long of its number
abbrev pub in_longs : Value → Value
in_longs = fold-Value Value (λ x. roll-Value (as_long x))
