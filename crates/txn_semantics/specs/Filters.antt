-- Which documents a filter matches. After the MongoDB manual's query operators, with this project's
-- candidates: a field offers its first value and, where that is a list, the values in it; a field
-- that isn't there offers null.
use Rattle.std.specs.Prelude.{ℕ, ◌&&◌, Bool, true, false, not, List, [], ◌∷◌, Option, Some, None}
use Rattle.std.specs.Prelude.{nat_eq, is_some}
use Rattle.std.specs.List.{list_any, list_all}
use Rattle.std.specs.declared.cmp.Ordering.{Ordering}
use Rattle.std.specs.Ordering.{is_eq, is_lt, is_le, is_gt, is_ge}
use Rattle.bson_core.specs.declared.value.Value.{Value}
use Rattle.bson_core.specs.declared.value.Value.TheVariants.{Null}
use Rattle.bson_core.specs.declared.value.Value.TheOpen as of
use Rattle.bson_core.specs.declared.value.Value.TheOpen.{Value-F}
use Rattle.bson_core.specs.declared.value.Value.TheViews.{out-Value}
use Rattle.bson_core.specs.Fields.{Document, value_of}
use Rattle.bson_core.specs.Order.{bracket, value_cmp}
use Rattle.txn_types.specs.declared.filter.Cmp.{Cmp}
use Rattle.txn_types.specs.declared.filter.Cmp.TheVariants.{Eq, Ne, Gt, Gte, Lt, Lte}
use Rattle.txn_types.specs.declared.filter.Filter.{Filter}
use Rattle.txn_types.specs.declared.filter.Filter.TheOpen as asks
use Rattle.txn_types.specs.declared.filter.Filter.TheOpen.{Filter-F}
use Rattle.txn_types.specs.declared.filter.Filter.TheFolds.{fold-Filter}

-- the values in a list
abbrev pub within : Value-F Value → List Value
within (of.List values) = values
within other = []

-- what a field offers to a comparison
abbrev pub candidates_of : Option Value → List Value
candidates_of None = Null ∷ []
candidates_of (Some value) = value ∷ within (out-Value value)

abbrev pub candidates : List ℕ → Document → List Value
candidates name doc = candidates_of (value_of name doc)

-- the candidate is of the operand's bracket, and stands so beside it
abbrev pub compares : (Ordering → Bool) → Value → Value → Bool
compares so value candidate =
    nat_eq (bracket candidate) (bracket value) && so (value_cmp candidate value)

-- some candidate of the field compares so with the value
abbrev pub some_compares : (Ordering → Bool) → List ℕ → Value → Document → Bool
some_compares so name value doc = list_any (compares so value) (candidates name doc)

abbrev pub equals : List ℕ → Value → Document → Bool
equals name value doc = some_compares is_eq name value doc

abbrev pub passes : Cmp → List ℕ → Value → Document → Bool
passes Eq name value doc = equals name value doc
passes Ne name value doc = not (equals name value doc)
passes Gt name value doc = some_compares is_gt name value doc
passes Gte name value doc = some_compares is_ge name value doc
passes Lt name value doc = some_compares is_lt name value doc
passes Lte name value doc = some_compares is_le name value doc

-- by cases on the filter, over the answers of the filters in it
abbrev pub matches_step : Document → Filter-F Bool → Bool
matches_step doc (asks.And answers) = list_all (λ b. b) answers
matches_step doc (asks.Or answers) = list_any (λ b. b) answers
matches_step doc (asks.Nor answers) = not (list_any (λ b. b) answers)
matches_step doc (asks.Test name cmp value) = passes cmp name value doc
matches_step doc (asks.In name values) = list_any (λ value. equals name value doc) values
matches_step doc (asks.Nin name values) = not (list_any (λ value. equals name value doc) values)
matches_step doc (asks.Exists name true) = is_some (value_of name doc)
matches_step doc (asks.Exists name false) = not (is_some (value_of name doc))

-- whether the document matches
unfoldable pub matches : Filter → Document → Bool
matches filter doc = fold-Filter Bool (matches_step doc) filter
