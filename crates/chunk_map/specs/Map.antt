-- Which rows make a map. The rows of a namespace are ranges of ids: each begins at an id, and goes
-- on to where the next begins; the first begins before all ids.
use Rattle.std.specs.Prelude.{◌≡◌, ℕ, ◌+◌, List, [], ◌∷◌, ◌++◌, filter, Option, Some, None, Result}
use Rattle.std.specs.Prelude.{Ok, Err, nat_lt, if◌then◌else◌}
use Rattle.std.specs.Option.{option_or}
use Rattle.std.specs.Ordering.{is_lt}
use Rattle.std.specs.Str.{bytes_eq}
use Rattle.txn_types.specs.Order.{id_cmp}
use Rattle.txn_types.specs.declared.id.Id.{Id}
use Rattle.chunk_map.specs.declared.map.ChunkRow.{ChunkRow}
use Rattle.chunk_map.specs.declared.map.MapErr.{MapErr}
use Rattle.chunk_map.specs.declared.map.MapErr.TheVariants.{Gap, Overlap, NoShard}

-- how many shards there are, and the rows of all namespaces
pub record Map : Type 0 where
  pub shards : ℕ
  pub rows : List ChunkRow

-- the ranges of a namespace, in their order
abbrev pub ranges_of : List ℕ → List ChunkRow → List ChunkRow
ranges_of ns rows = filter (λ row. bytes_eq row.ns ns) rows

-- the last of the ranges
abbrev pub last_range : List ChunkRow → Option ChunkRow
last_range [] = None
last_range (row ∷ []) = Some row
last_range (row ∷ next ∷ rows) = last_range (next ∷ rows)

-- what is wrong with how a row begins, after the last of its namespace
abbrev pub beginning_fault : ℕ → Option ChunkRow → Option Id → Option MapErr
beginning_fault place None None = None
beginning_fault place None (Some id) = Some (Gap place)
beginning_fault place (Some before) None = Some (Overlap place)
beginning_fault place (Some before) (Some id) = elim (before.from) [
  | None ↦ None
  | Some low ↦ if is_lt (id_cmp low id) then None else Some (Overlap place)
]

-- what is wrong with a row at its place, after those rows
abbrev pub row_fault : ℕ → ℕ → List ChunkRow → ChunkRow → Option MapErr
row_fault shards place before row =
    option_or (beginning_fault place (last_range (ranges_of row.ns before)) row.from)
    (if nat_lt row.shard shards then None else Some (NoShard place))

-- the first fault of rows, from that place on, after those rows
abbrev pub fault_behind : ℕ → ℕ → List ChunkRow → List ChunkRow → Option MapErr
fault_behind shards place before [] = None
fault_behind shards place before (row ∷ rows) = option_or (row_fault shards place before row)
    (fault_behind shards (place + 1) (before ++ row ∷ []) rows)

-- the first fault of a map's rows, which are counted from 0
abbrev pub first_fault : ℕ → List ChunkRow → Option MapErr
first_fault shards rows = fault_behind shards 0 [] rows

-- the rows are a map: no row is at fault
abbrev pub IsMap : Map → Type 0
IsMap map = first_fault map.shards map.rows ≡ None

-- the map of rows, or what is wrong with them
abbrev pub map_by : ℕ → List ChunkRow → Option MapErr → Result Map MapErr
map_by shards rows None = Ok (record { shards = shards; rows = rows })
map_by shards rows (Some fault) = Err fault

abbrev pub map_of : ℕ → List ChunkRow → Result Map MapErr
map_of shards rows = map_by shards rows (first_fault shards rows)
