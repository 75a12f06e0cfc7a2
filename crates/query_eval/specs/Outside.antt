-- Places outside which no row concerns an item.
use Rattle.std.specs.Prelude.{◌≡◌, ◌≤◌, List, None, false, length}
use Rattle.std.specs.List.{AllWithin}
use Rattle.txn_types.specs.Order.{same_id}
use Rattle.txn_types.specs.declared.filter.Filter.{Filter}
use Rattle.txn_types.specs.declared.id.Id.{Id}
use Rattle.query_eval.specs.Acts.{wanted_in}
use Rattle.query_eval.specs.declared.held.Held.{Held}
use Rattle.query_eval.specs.declared.places.Places.{Places}

-- the rows outside these places are all such
pub record Outside (IsSuch : Id × Held → Type 0) (rows : List (Id × Held)) (places : Places) : Type
    0 where
  pub ordered : places.from ≤ places.to
  pub within : places.to ≤ length rows
  pub before : AllWithin IsSuch rows 0 places.from
  pub behind : AllWithin IsSuch rows places.to (length rows)

-- the filter doesn't want it
abbrev pub IsUnwanted : Filter → Id × Held → Type 0
IsUnwanted filter row = wanted_in filter row.1 ≡ None

-- it has another id
abbrev pub HasOtherId : Id → Id × Held → Type 0
HasOtherId id row = same_id row.0 id ≡ false
