-- Where documents are kept: the shard of an id, and the shards of a filter.
use Rattle.std.specs.Prelude.{ℕ, Bool, true, List, [], ◌∷◌, map, Option, Some, None, if◌then◌else◌}
use Rattle.std.specs.Ordering.{is_le}
use Rattle.std.specs.Str.{bytes_eq}
use Rattle.bson_core.specs.declared.value.Value.{Value}
use Rattle.txn_types.specs.Ids.{id_name}
use Rattle.txn_types.specs.declared.filter.Cmp.{Cmp}
use Rattle.txn_types.specs.declared.filter.Cmp.TheVariants.{Eq}
use Rattle.txn_types.specs.Numbers.{put_number}
use Rattle.txn_types.specs.Order.{id_cmp}
use Rattle.txn_types.specs.declared.filter.Filter.{Filter}
use Rattle.txn_types.specs.declared.id.Id.{Id}
use Rattle.txn_semantics.specs.Touched.{Touched, ids_among, id_test}
use Rattle.chunk_map.specs.declared.map.ChunkRow.{ChunkRow}
use Rattle.chunk_map.specs.Map.{Map, ranges_of}

-- the range begins at or below the id
abbrev pub begins_by : Id → Option Id → Bool
begins_by id None = true
begins_by id (Some from) = is_le (id_cmp from id)

-- the shard of the last of these ranges that begins at or below the id, or that one where none does
abbrev pub shard_in : ℕ → Id → List ChunkRow → ℕ
shard_in shard id [] = shard
shard_in shard id (row ∷ rows) =
    shard_in (if begins_by id row.from then row.shard else shard) id rows

-- the shard that keeps the document of this id; a namespace without ranges is on shard 0
abbrev pub shard_of : Map → List ℕ → Id → ℕ
shard_of m ns id = shard_in 0 id (ranges_of ns m.rows)

-- numbers rising, each once
abbrev pub rising : List ℕ → List ℕ
rising [] = []
rising (n ∷ ns) = put_number n (rising ns)

-- shard 0, where there is none
abbrev pub or_first : List ℕ → List ℕ
or_first [] = 0 ∷ []
or_first (n ∷ ns) = n ∷ ns

-- by the ids that a filter asks for: their shards, or where it asks for all every shard with a
-- range
abbrev pub shards_by : Map → List ℕ → Touched → List ℕ
shards_by m ns (Some ids) = or_first (rising (map (shard_of m ns) ids))
shards_by m ns None = or_first (rising (map (λ row. row.shard) (ranges_of ns m.rows)))

-- the shards that are asked for what matches
abbrev pub shards_for : Map → List ℕ → Filter → List ℕ
shards_for m ns wanted = shards_by m ns (id_test wanted)

-- the id test of a comparison
abbrev pub test_of : List ℕ → Cmp → Value → Touched
test_of name Eq value = if bytes_eq name id_name then Some (ids_among (value ∷ [])) else None
test_of name other value = None
