-- The values of a list.
use Rattle.std.specs.Prelude.{List, Option, Some, None}
use Rattle.bson_core.specs.declared.value.Value.{Value}
use Rattle.bson_core.specs.declared.value.Value.TheOpen as of
use Rattle.bson_core.specs.declared.value.Value.TheOpen.{Value-F}

abbrev pub list_of : Value-F Value → Option (List Value)
list_of (of.List values) = Some values
list_of other = None
