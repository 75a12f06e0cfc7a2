-- What stands between the parts of the code that writes lines.
use Rattle.std.specs.Prelude.{ℕ, ◌+◌, max, List, [], ◌∷◌, ◌++◌, filter, flat_map, nat_eq, decimal}
use Rattle.hex.specs.Hex.{encode_lower}
use Rattle.bson_core.specs.Fields.{Document}
use Rattle.bson_core.specs.Spelling.{spelling}
use Rattle.txn_types.specs.declared.message.Envelope.{Envelope}
use Rattle.txn_types.specs.declared.write.Write.{Write}
use Rattle.txn_semantics.specs.Writes.{Place, place_of}
use Rattle.chunk_map.specs.Map.{Map}
use Rattle.chunk_map.specs.Place.{shard_of}
use Rattle.play_text.specs.Text.{line, node_text, kind_text, write_line}

-- from where to where a message goes, and its kind
abbrev pub way_text : Envelope → List ℕ
way_text e = node_text e.from ++ 32 ∷ (node_text e.to ++ 32 ∷ kind_text e.msg)

-- the shard that keeps a document
abbrev pub kept_by : Map → Place → ℕ
kept_by m place = shard_of m place.0 place.1

-- a line on a document
abbrev pub doc_line : List ℕ → ℕ → List ℕ → Document → List ℕ
doc_line word shard ns doc = line word (decimal shard ∷ ns ∷ encode_lower (spelling doc) ∷ [])

-- the writes whose documents a shard keeps
abbrev pub share : (Place → ℕ) → List Write → ℕ → List Write
share place writes shard = filter (λ write. nat_eq (place (place_of write)) shard) writes

-- one above the greatest shard that keeps a document of these writes, or this number where that is
-- above
abbrev pub past_from : (Place → ℕ) → ℕ → List Write → ℕ
past_from place past [] = past
past_from place past (write ∷ writes) =
    past_from place (max past (place (place_of write) + 1)) writes

-- lines on writes
abbrev pub lines_of : (Place → ℕ) → List Write → List ℕ
lines_of place writes = flat_map (λ write. write_line (place (place_of write)) write) writes
