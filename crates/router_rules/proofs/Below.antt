-- Statements go to shards below the number of the map's shards, or to shard 0.
use Rattle.std.proofs.Common.{◌≡◌, ℕ, ◌+◌, ◌<◌, ◌≤◌, Bool, true, false, cond, List, [], ◌∷◌, ◌++◌}
use Rattle.std.proofs.Common.{map, Option, Some, None, refl, arith, nat_eq, nat_lt, if◌then◌else◌}
use Rattle.std.specs.List.{cons_option, filter_map, flat_map}
use Rattle.std.specs.Option.{option_or, option_map}
use Rattle.std.specs.Str.{bytes_eq}
use Rattle.std.proofs.lemmas.Bool.{ltb-true}
use Rattle.txn_types.specs.Ids.{id_in}
use Rattle.txn_types.specs.Numbers.{put_number}
use Rattle.txn_types.specs.declared.id.Id.{Id}
use Rattle.txn_types.specs.declared.filter.Filter.{Filter}
use Rattle.txn_types.specs.declared.operation.DeleteItem.{DeleteItem}
use Rattle.txn_types.specs.declared.operation.InsertItem.{InsertItem}
use Rattle.txn_types.specs.declared.operation.UpdateItem.{UpdateItem}
use Rattle.txn_types.specs.declared.operation.Op.{Op}
use Rattle.txn_types.specs.declared.operation.Op.TheVariants.{Insert, Find, Update, Delete}
use Rattle.txn_semantics.specs.Touched.{Touched, id_test}
use Rattle.chunk_map.specs.declared.map.ChunkRow.{ChunkRow}
use Rattle.chunk_map.specs.declared.map.MapErr.{MapErr}
use Rattle.chunk_map.specs.declared.map.MapErr.TheVariants.{NoShard}
use Rattle.chunk_map.specs.Map.{Map, IsMap, ranges_of, last_range, beginning_fault, row_fault}
use Rattle.chunk_map.specs.Map.{fault_behind}
use Rattle.chunk_map.specs.Parts.{shards_of}
use Rattle.chunk_map.specs.Place.{begins_by, shard_in, shard_of, rising, or_first, shards_by}
use Rattle.chunk_map.specs.Place.{shards_for}
use Rattle.router_rules.specs.Safe.{Below}

-- Rising numbers.

put_case : (n k m : ℕ) (ms : List ℕ) (lt eq : Bool)
    → k < n → Below n (m ∷ ms) → Below n (put_number k ms)
    → Below n (if lt then k ∷ m ∷ ms else if eq then m ∷ ms else m ∷ put_number k ms)
put_case n k m ms true eq h below more = (h, below)
put_case n k m ms false true h below more = below
put_case n k m ms false false h below more = (below.0, more)

put_below : (n k : ℕ) (ms : List ℕ) → k < n → Below n ms → Below n (put_number k ms)
put_below n k [] h below = (h, tt)
put_below n k (m ∷ ms) h below =
    put_case n k m ms (nat_lt k m) (nat_eq k m) h below (put_below n k ms h below.1)

rising_below : (n : ℕ) (ms : List ℕ) → Below n ms → Below n (rising ms)
rising_below n [] below = tt
rising_below n (m ∷ ms) below = put_below n m (rising ms) below.0 (rising_below n ms below.1)

or_first_below : (n : ℕ) (ms : List ℕ) → 0 < n → Below n ms → Below n (or_first ms)
or_first_below n [] h below = (h, tt)
or_first_below n (m ∷ ms) h below = below

both_below : (n : ℕ) (ms ks : List ℕ) → Below n ms → Below n ks → Below n (ms ++ ks)
both_below n [] ks below more = more
both_below n (m ∷ ms) ks below more = (below.0, both_below n ms ks below.1 more)

-- The rows of a map.

abbrev RowsBelow : ℕ → List ChunkRow → Type 0
RowsBelow n [] = Unit {0}
RowsBelow n (row ∷ rows) = (row.shard < n) × RowsBelow n rows

first_none : (a b : Option MapErr) → option_or a b ≡ None → a ≡ None
first_none None b h = refl
first_none (Some e) b h = cc

second_none : (a b : Option MapErr) → option_or a b ≡ None → b ≡ None
second_none None b h = h
second_none (Some e) b h = cc

there_case : (place : ℕ) (lt : Bool)
    → (if lt then None else Some (NoShard place)) ≡ None → lt ≡ true
there_case place true h = refl
there_case place false h = cc

rows_below : (n shards place : ℕ) (before rows : List ChunkRow) → shards ≤ n
    → fault_behind shards place before rows ≡ None → RowsBelow n rows
rows_below n shards place before [] h none = tt
rows_below n shards place before (row ∷ rows) h none =
    let here : row_fault shards place before row ≡ None = first_none (row_fault shards place before
    row) (fault_behind shards (place + 1) (before ++ row ∷ []) rows) none in
    let there : (if nat_lt row.shard shards then None else Some (NoShard place)) ≡ None =
    second_none (beginning_fault place (last_range (ranges_of row.ns before))
    row.from) _ here in
    let below : row.shard < shards =
    ltb-true row.shard shards (there_case place (nat_lt row.shard shards) there) in (
      omega (arith, h, below),
      rows_below n shards (place + 1) (before ++ row ∷ []) rows h (second_none (row_fault shards
          place before row) (fault_behind shards (place + 1) (before ++ row ∷ []) rows) none),
    )

range_case : (n : ℕ) (row : ChunkRow) (rows : List ChunkRow) (b : Bool) → row.shard < n
    → RowsBelow n rows → RowsBelow n (cond b (row ∷ rows) rows)
range_case n row rows true h below = (h, below)
range_case n row rows false h below = below

ranges_below : (n : ℕ) (ns : List ℕ) (rows : List ChunkRow) → RowsBelow n rows
    → RowsBelow n (ranges_of ns rows)
ranges_below n ns [] below = tt
ranges_below n ns (row ∷ rows) below = range_case n row (ranges_of ns rows) (bytes_eq row.ns ns)
    below.0 (ranges_below n ns rows below.1)

in_case : (n : ℕ) (b : Bool) (row : ChunkRow) (shard : ℕ) → row.shard < n → shard < n
    → (if b then row.shard else shard) < n
in_case n true row shard h below = h
in_case n false row shard h below = below

in_below : (n shard : ℕ) (id : Id) (rows : List ChunkRow) → shard < n → RowsBelow n rows
    → shard_in shard id rows < n
in_below n shard id [] h below = h
in_below n shard id (row ∷ rows) h below = in_below n (if begins_by id row.from then row.shard
    else shard) id rows (in_case n (begins_by id row.from) row shard below.0 h) below.1

shards_below : (n : ℕ) (rows : List ChunkRow) → RowsBelow n rows
    → Below n (map (λ (row : ChunkRow). row.shard) rows)
shards_below n [] below = tt
shards_below n (row ∷ rows) below = (below.0, shards_below n rows below.1)

-- a map whose shards have numbers below n
record Reaches (n : ℕ) (m : Map) : Type 0 where
  some : 0 < n
  rows : RowsBelow n m.rows

of_below : (n : ℕ) (m : Map) (ns : List ℕ) (id : Id) → Reaches n m → shard_of m ns id < n
of_below n m ns id r =
    in_below n 0 id (ranges_of ns m.rows) r.some (ranges_below n ns m.rows r.rows)

ids_below : (n : ℕ) (m : Map) (ns : List ℕ) (ids : List Id) → Reaches n m
    → Below n (map (shard_of m ns) ids)
ids_below n m ns [] r = tt
ids_below n m ns (id ∷ ids) r = (of_below n m ns id r, ids_below n m ns ids r)

by_below : (n : ℕ) (m : Map) (ns : List ℕ) (touched : Touched) → Reaches n m
    → Below n (shards_by m ns touched)
by_below n m ns (Some ids) r = or_first_below n (rising (map (shard_of m ns) ids)) r.some
    (rising_below n (map (shard_of m ns) ids) (ids_below n m ns ids r))
by_below n m ns None r =
    let shards : List ℕ = map (λ (row : ChunkRow). row.shard) (ranges_of ns m.rows) in
    or_first_below n (rising shards) r.some (rising_below n shards
    (shards_below n (ranges_of ns m.rows) (ranges_below n ns m.rows r.rows)))

for_below : (n : ℕ) (m : Map) (ns : List ℕ) (wanted : Filter) → Reaches n m
    → Below n (shards_for m ns wanted)
for_below n m ns wanted r = by_below n m ns (id_test wanted) r

all_below : {A : Type 0} (n : ℕ) (m : Map) (ns : List ℕ) (wanted : A → Filter) (items : List A)
    → Reaches n m → Below n (flat_map (λ item. shards_for m ns (wanted item)) items)
all_below n m ns wanted [] r = tt
all_below n m ns wanted (item ∷ items) r =
    both_below n (shards_for m ns (wanted item)) (flat_map (λ item. shards_for m ns (wanted item))
    items) (for_below n m ns (wanted item) r) (all_below n m ns wanted items r)

document_case : (n : ℕ) (m : Map) (ns : List ℕ) (o : Option Id) (more : List ℕ) → Reaches n m
    → Below n more → Below n (cons_option (option_map (shard_of m ns) o) more)
document_case n m ns (Some id) more r below = (of_below n m ns id r, below)
document_case n m ns None more r below = below

documents_below : (n : ℕ) (m : Map) (ns : List ℕ) (items : List InsertItem) → Reaches n m → Below n
    (filter_map (λ (item : InsertItem). option_map (shard_of m ns) (id_in item.doc)) items)
documents_below n m ns [] r = tt
documents_below n m ns (item ∷ items) r =
    document_case n m ns (id_in item.doc) (filter_map (λ (item : InsertItem).
    option_map (shard_of m ns) (id_in item.doc)) items) r (documents_below n m ns items r)

sent_below : (n : ℕ) (m : Map) (op : Op) → Reaches n m → Below n (shards_of m op)
unfolding shards_of
sent_below n m (Insert ns docs) r = rising_below n (filter_map (λ (item : InsertItem).
    option_map (shard_of m ns) (id_in item.doc)) docs) (documents_below n m ns docs r)
sent_below n m (Find ns wanted down limit) r = for_below n m ns wanted r
sent_below n m (Update ns items) r =
    rising_below n _ (all_below n m ns (λ (item : UpdateItem). item.filter) items r)
sent_below n m (Delete ns items) r =
    rising_below n _ (all_below n m ns (λ (item : DeleteItem). item.filter) items r)

pub asked_below : (m : Map) (op : Op) → IsMap m → m.shards ≤ 65535 → Below 65535 (shards_of m op)
asked_below m op is few = sent_below 65535 m op
    (record { some = omega arith; rows = rows_below 65535 m.shards 0 [] m.rows few is })
