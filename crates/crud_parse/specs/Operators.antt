-- The operators of filters and updates by their names, which are those of the MongoDB manual.
use Rattle.std.specs.Prelude.{ℕ, List, [], ◌∷◌, Option, Some, None, if◌then◌else◌, codes}
use Rattle.std.specs.Str.{bytes_eq}
use Rattle.txn_types.specs.declared.filter.Cmp.TheVariants.{Eq, Ne, Gt, Gte, Lt, Lte}
use Rattle.txn_types.specs.declared.filter.Filter.{Filter}
use Rattle.txn_types.specs.declared.filter.Filter.TheViews as filter
use Rattle.txn_types.specs.declared.update.UpdateKind.{UpdateKind}
use Rattle.txn_types.specs.declared.update.UpdateKind.TheVariants.{Set, Unset, Inc}
use Rattle.crud_parse.specs.declared.operators.Junction.{Junction}
use Rattle.crud_parse.specs.declared.operators.Junction.TheVariants.{And, Or, Nor}
use Rattle.crud_parse.specs.declared.operators.Operator.{Operator}
use Rattle.crud_parse.specs.declared.operators.Operator.TheVariants.{Compare, In, Nin, Exists}

-- what stands beside the name in a table
abbrev pub beside : {A : Type 0} → List ℕ → List (List ℕ × A) → Option A
beside name [] = None
beside name (row ∷ rows) = if bytes_eq name row.0 then Some row.1 else beside name rows

-- $and, $or, $nor
abbrev pub junction_of : List ℕ → Option Junction
junction_of name = beside name (
    (codes "$and", And) ∷
    (codes "$or", Or) ∷
    (codes "$nor", Nor) ∷
    [])

-- $eq, $ne, $gt, $gte, $lt, $lte, $in, $nin, $exists
abbrev pub operator_of : List ℕ → Option Operator
operator_of name = beside name (
    (codes "$eq", Compare Eq) ∷
    (codes "$ne", Compare Ne) ∷
    (codes "$gt", Compare Gt) ∷
    (codes "$gte", Compare Gte) ∷
    (codes "$lt", Compare Lt) ∷
    (codes "$lte", Compare Lte) ∷
    (codes "$in", In) ∷
    (codes "$nin", Nin) ∷
    (codes "$exists", Exists) ∷
    [])

-- $set, $unset, $inc
abbrev pub kind_of : List ℕ → Option UpdateKind
kind_of name = beside name (
    (codes "$set", Set) ∷
    (codes "$unset", Unset) ∷
    (codes "$inc", Inc) ∷
    [])

-- the filter that these make together
abbrev pub joined : Junction → List Filter → Filter
joined And filters = filter.And filters
joined Or filters = filter.Or filters
joined Nor filters = filter.Nor filters
