-- A statement goes to shards of the map. (router_rules has this of the bound 65,535 alone.)
use Rattle.std.proofs.Common.{◌≡◌, ◌<◌, ◌+◌, ℕ, Bool, true, false, All, List, [], ◌∷◌, ◌++◌, map}
use Rattle.std.proofs.Common.{Option, Some, None, IfSome, refl, arith, nat_lt, if◌then◌else◌}
use Rattle.std.specs.List.{filter_map, flat_map}
use Rattle.std.specs.Option.{option_or, option_map}
use Rattle.std.specs.Str.{bytes_eq}
use Rattle.std.proofs.lemmas.Bool.{ltb-true}
use Rattle.std.proofs.lemmas.List.Elements.{All-nil, All-cons, All-head, All-tail, All-append}
use Rattle.std.proofs.lemmas.List.Elements.{All-map, All-filter}
use Rattle.txn_types.specs.Ids.{id_in}
use Rattle.txn_types.specs.declared.filter.Filter.{Filter}
use Rattle.txn_types.specs.declared.id.Id.{Id}
use Rattle.txn_types.specs.declared.node.NodeId.{NodeId}
use Rattle.txn_types.specs.declared.node.NodeId.TheVariants.{Shard}
use Rattle.txn_types.specs.declared.operation.DeleteItem.{DeleteItem}
use Rattle.txn_types.specs.declared.operation.InsertItem.{InsertItem}
use Rattle.txn_types.specs.declared.operation.UpdateItem.{UpdateItem}
use Rattle.txn_types.specs.declared.operation.Op.{Op}
use Rattle.txn_types.specs.declared.operation.Op.TheVariants.{Insert, Find, Update, Delete}
use Rattle.txn_semantics.specs.Touched.{Touched, id_test}
use Rattle.chunk_map.specs.declared.map.ChunkRow.{ChunkRow}
use Rattle.chunk_map.specs.declared.map.MapErr.{MapErr}
use Rattle.chunk_map.specs.declared.map.MapErr.TheVariants.{NoShard}
use Rattle.chunk_map.specs.Map.{Map, ranges_of, last_range, beginning_fault, row_fault}
use Rattle.chunk_map.specs.Map.{fault_behind}
use Rattle.chunk_map.specs.Parts.{shards_of}
use Rattle.chunk_map.specs.Place.{begins_by, shard_in, shard_of, rising, or_first, shards_by}
use Rattle.chunk_map.specs.Place.{shards_for}
use Rattle.participant.proofs.Cases.{either}
use Rattle.address_laws.specs.Addresses.{ShardsThere, MapThere}
use Rattle.address_laws.proofs.Lists.{numbers_put, option_put, range_all}
use Rattle.std.specs.List.{range_with_len}
use Rattle.world_laws.proofs.Naming.{one}

rising_all : (P : ℕ → Type 0) (ms : List ℕ) → All P ms → All P (rising ms)
rising_all P [] h = All-nil P
rising_all P (m ∷ ms) h =
    numbers_put P m (rising ms) (All-head P m ms h) (rising_all P ms (All-tail P m ms h))

or_first_all : (P : ℕ → Type 0) (ms : List ℕ) → P 0 → All P ms → All P (or_first ms)
or_first_all P [] first h = one P 0 first
or_first_all P (m ∷ ms) first h = h

-- The rows of a map.

abbrev RowAt : (ℕ → Type 0) → ChunkRow → Type 0
RowAt P row = P row.shard

first_none : (a b : Option MapErr) → option_or a b ≡ None → a ≡ None
first_none None b h = refl
first_none (Some e) b h = cc

second_none : (a b : Option MapErr) → option_or a b ≡ None → b ≡ None
second_none None b h = h
second_none (Some e) b h = cc

there_case : (place : ℕ) (lt : Bool)
    → (if lt then None else Some (NoShard place)) ≡ None → lt ≡ true
there_case place true h = refl
there_case place false h = cc

rows_all : (P : ℕ → Type 0) (shards place : ℕ) (before rows : List ChunkRow) → ((n : ℕ) → n < shards
    → P n) → fault_behind shards place before rows ≡ None → All (RowAt P) rows
rows_all P shards place before [] h none = All-nil (RowAt P)
rows_all P shards place before (row ∷ rows) h none =
    let more = fault_behind shards (place + 1) (before ++ row ∷ []) rows in
    let here : row_fault shards place before row ≡ None =
    first_none (row_fault shards place before row) more none in
    let there : (if nat_lt row.shard shards then None else Some (NoShard place)) ≡ None =
    second_none (beginning_fault place (last_range (ranges_of row.ns before))
    row.from) _ here in
    let below : row.shard < shards =
    ltb-true row.shard shards (there_case place (nat_lt row.shard shards) there) in
    All-cons (RowAt P) row rows (h row.shard below)
    (rows_all P shards (place + 1) (before ++ row ∷ []) rows h
    (second_none (row_fault shards place before row) more none))

-- what a map's shards are
record Reaches (P : ℕ → Type 0) (m : Map) : Type 0 where
  first : P 0
  rows : All (RowAt P) m.rows

ranges_all : (P : ℕ → Type 0) (m : Map) (ns : List ℕ) → Reaches P m
    → All (RowAt P) (ranges_of ns m.rows)
ranges_all P m ns r = All-filter (λ (row : ChunkRow). bytes_eq row.ns ns) (RowAt P) m.rows r.rows

in_all : (P : ℕ → Type 0) (shard : ℕ) (id : Id) (rows : List ChunkRow) → P shard
    → All (RowAt P) rows → P (shard_in shard id rows)
in_all P shard id [] this h = this
in_all P shard id (row ∷ rows) this h =
    in_all P (if begins_by id row.from then row.shard else shard) id rows
    (either (begins_by id row.from) P row.shard shard (All-head (RowAt P) row rows h) this)
    (All-tail (RowAt P) row rows h)

of_all : (P : ℕ → Type 0) (m : Map) (ns : List ℕ) (id : Id) → Reaches P m → P (shard_of m ns id)
of_all P m ns id r = in_all P 0 id (ranges_of ns m.rows) r.first (ranges_all P m ns r)

ids_all : (P : ℕ → Type 0) (m : Map) (ns : List ℕ) (ids : List Id) → Reaches P m
    → All P (map (shard_of m ns) ids)
ids_all P m ns [] r = All-nil P
ids_all P m ns (id ∷ ids) r = All-cons P (shard_of m ns id) (map (shard_of m ns) ids) (of_all P m ns
    id r) (ids_all P m ns ids r)

by_all : (P : ℕ → Type 0) (m : Map) (ns : List ℕ) (touched : Touched) → Reaches P m
    → All P (shards_by m ns touched)
by_all P m ns (Some ids) r = or_first_all P (rising (map (shard_of m ns) ids)) r.first (rising_all P
    (map (shard_of m ns) ids) (ids_all P m ns ids r))
by_all P m ns None r =
    let shards : List ℕ = map (λ (row : ChunkRow). row.shard) (ranges_of ns m.rows) in
    or_first_all P (rising shards) r.first
    (rising_all P shards
    (All-map P (λ (row : ChunkRow). row.shard) (ranges_of ns m.rows) (ranges_all P m ns r)))

for_all : (P : ℕ → Type 0) (m : Map) (ns : List ℕ) (wanted : Filter) → Reaches P m
    → All P (shards_for m ns wanted)
for_all P m ns wanted r = by_all P m ns (id_test wanted) r

filters_all : {A : Type 0} (P : ℕ → Type 0) (m : Map) (ns : List ℕ) (wanted : A → Filter)
    (items : List A) → Reaches P m → All P (flat_map (λ item. shards_for m ns (wanted item)) items)
filters_all P m ns wanted [] r = All-nil P
filters_all P m ns wanted (item ∷ items) r =
    All-append P (shards_for m ns (wanted item))
    (flat_map (λ item. shards_for m ns (wanted item)) items) (for_all P m ns (wanted item) r)
    (filters_all P m ns wanted items r)

document_case : (P : ℕ → Type 0) (m : Map) (ns : List ℕ) (o : Option Id) → Reaches P m
    → IfSome (option_map (shard_of m ns) o) P
document_case P m ns None r = tt
document_case P m ns (Some id) r = of_all P m ns id r

documents_all : (P : ℕ → Type 0) (m : Map) (ns : List ℕ) (items : List InsertItem) → Reaches P m
    → All P (filter_map (λ (item : InsertItem). option_map (shard_of m ns) (id_in item.doc)) items)
documents_all P m ns [] r = All-nil P
documents_all P m ns (item ∷ items) r =
    option_put P (option_map (shard_of m ns) (id_in item.doc))
    (filter_map (λ (item : InsertItem). option_map (shard_of m ns) (id_in item.doc)) items)
    (document_case P m ns (id_in item.doc) r) (documents_all P m ns items r)

asked_all : (P : ℕ → Type 0) (m : Map) (op : Op) → Reaches P m → All P (shards_of m op)
unfolding shards_of
asked_all P m (Insert ns docs) r = rising_all P _ (documents_all P m ns docs r)
asked_all P m (Find ns wanted down limit) r = for_all P m ns wanted r
asked_all P m (Update ns items) r =
    rising_all P _ (filters_all P m ns (λ (item : UpdateItem). item.filter) items r)
asked_all P m (Delete ns items) r =
    rising_all P _ (filters_all P m ns (λ (item : DeleteItem). item.filter) items r)

pub asked_there : (T : NodeId → Type 0) (m : Map) (op : Op) → MapThere T m
    → ShardsThere T (shards_of m op)
asked_there T m op h =
    asked_all (λ (n : ℕ). T (Shard n)) m op
    (record {
      first = h.all 0 h.some;
      rows = rows_all (λ (n : ℕ). T (Shard n)) m.shards 0 [] m.rows h.all h.is;
    })

pub each_there : (T : NodeId → Type 0) (m : Map) → MapThere T m
    → ShardsThere T (range_with_len 0 m.shards)
each_there T m h = range_all (λ (n : ℕ). T (Shard n)) m.shards 0 m.shards (omega arith) h.all
