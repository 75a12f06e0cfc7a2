-- What of writes and of commits belongs to the documents that stand at one shard.
use Rattle.std.specs.Prelude.{◌≡◌, ℕ, Bool, true, List, [], ◌∷◌, filter, map, nat_eq}
use Rattle.std.specs.List.{list_any, flat_map}
use Rattle.txn_types.specs.declared.id.Id.{Id}
use Rattle.txn_types.specs.declared.write.Write.{Write}
use Rattle.txn_semantics.specs.declared.commits.Entry.{Entry}
use Rattle.txn_semantics.specs.Rows.{Row}
use Rattle.txn_semantics.specs.Writes.{Place, place_of, write_set}

-- the documents that stand at the shard of this number
abbrev pub stands_at : (Place → ℕ) → ℕ → Place → Bool
stands_at shard_of s place = nat_eq (shard_of place) s

-- the writes to documents that stand here
abbrev pub writes_at : (Place → Bool) → List Write → List Write
writes_at here writes = filter (λ write. here (place_of write)) writes

-- the commit with what it wrote here
abbrev pub entry_at : (Place → Bool) → Entry → Entry
entry_at here e =
    record { tag = e.tag; read_at = e.read_at; at = e.at; writes = writes_at here e.writes }

abbrev pub entries_at : (Place → Bool) → List Entry → List Entry
entries_at here entries = map (entry_at here) entries

-- the shard at which an id of a namespace stands
abbrev pub place_in : (Place → ℕ) → List ℕ → Id → ℕ
place_in shard_of ns id = shard_of (ns, id)

-- each row stands at one of the shards
abbrev pub AreAmong : (Id → ℕ) → List ℕ → List Row → Type 0
AreAmong place shards [] = Unit {0}
AreAmong place shards (row ∷ rows) = (list_any (nat_eq (place row.0)) shards ≡ true)
    × AreAmong place shards rows

-- each document that is written stands at one of the shards
abbrev pub AllAmong : (Place → ℕ) → List ℕ → List Write → Type 0
AllAmong shard_of shards [] = Unit {0}
AllAmong shard_of shards (write ∷ writes) =
    (list_any (nat_eq (shard_of (place_of write))) shards ≡ true) × AllAmong shard_of shards writes

-- what each shard has of a transaction's writes, the last to each document, one shard after the
-- other
abbrev pub shares : (Place → ℕ) → List ℕ → List Write → List Write
shares shard_of shards writes =
    flat_map (λ s. write_set (writes_at (stands_at shard_of s) writes)) shards
