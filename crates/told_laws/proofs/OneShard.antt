-- On one shard a statement's part is the statement, and what is told of one Answer is what it
-- tells.
use Rattle.std.proofs.Common.{◌≡◌, ◌+◌, ◌<◌, ℕ, Bool, true, false, All, List, [], ◌∷◌, ◌++◌, filter}
use Rattle.std.proofs.Common.{Option, Some, None, is_some, Ok, Err, nat_eq, nat_lt, refl, sym, ap}
use Rattle.std.proofs.Common.{ap₂, ◌∙◌, arith, if◌then◌else◌}
use Rattle.std.specs.Option.{option_or}
use Rattle.std.proofs.lemmas.Bool.{ltb-true}
use Rattle.std.proofs.lemmas.List.Elements.{All-head, All-tail}
use Rattle.txn_types.specs.Ids.{id_in}
use Rattle.txn_types.specs.declared.id.Id.{Id}
use Rattle.txn_types.specs.declared.operation.InsertItem.{InsertItem}
use Rattle.txn_types.specs.declared.operation.Op.{Op}
use Rattle.txn_types.specs.declared.operation.Op.TheVariants.{Insert, Find, Update, Delete}
use Rattle.txn_types.specs.declared.operation.OpReply.{OpReply}
use Rattle.txn_types.specs.declared.operation.OpReply.TheVariants.{Count}
use Rattle.txn_types.specs.declared.write.Write.{Write}
use Rattle.txn_semantics.specs.Effect.{Doing, AreKnown, matching}
use Rattle.txn_semantics.specs.Meaning.{capped, eval, meaning_of, count_met, count_both, reply_of}
use Rattle.txn_semantics.specs.Meaning.{document_rules}
use Rattle.txn_semantics.specs.Merge.{merge, merge_counts}
use Rattle.txn_semantics.specs.Rows.{Row, IsRising, at}
use Rattle.txn_semantics.specs.Splits.{here, goes, outcome, AreOnce}
use Rattle.txn_semantics.proofs.Whole.{replies_merge}
use Rattle.chunk_map.specs.Map.{Map, IsMap, ranges_of, last_range, beginning_fault, row_fault}
use Rattle.chunk_map.specs.Map.{fault_behind}
use Rattle.chunk_map.specs.Parts.{part_at}
use Rattle.chunk_map.specs.Place.{begins_by, shard_in, shard_of}
use Rattle.chunk_map.specs.declared.map.ChunkRow.{ChunkRow}
use Rattle.chunk_map.specs.declared.map.MapErr.{MapErr}
use Rattle.chunk_map.specs.declared.map.MapErr.TheVariants.{NoShard}
use Rattle.told_laws.specs.OneShard.{HaveIds}

-- A map of one shard.

abbrev AllFirst : List ChunkRow → Type 0
AllFirst [] = Unit {0}
AllFirst (row ∷ rows) = (row.shard ≡ 0) × AllFirst rows

none_of : (a b : Option MapErr) → option_or a b ≡ None → (a ≡ None) × (b ≡ None)
none_of None b e = (refl, e)
none_of (Some x) b e = grind arith

below_if : (place : ℕ) (test : Bool) → (if test then None else Some (NoShard place)) ≡ None
    → test ≡ true
below_if place true e = refl
below_if place false e = grind arith

rows_first : (place : ℕ) (before rows : List ChunkRow) → fault_behind 1 place before rows ≡ None
    → AllFirst rows
rows_first place before [] e = tt
rows_first place before (row ∷ rows) e =
    let b = none_of (row_fault 1 place before row)
    (fault_behind 1 (place + 1) (before ++ row ∷ []) rows) e in
    let c = none_of (beginning_fault place (last_range (ranges_of row.ns before)) row.from)
    (if nat_lt row.shard 1 then None else Some (NoShard place)) b.0 in
    let less : row.shard < 1 = ltb-true row.shard 1 (below_if place (nat_lt row.shard 1) c.1) in
    (omega (arith, less), rows_first (place + 1) (before ++ row ∷ []) rows b.1)

filter_first : (p : ChunkRow → Bool) (rows : List ChunkRow) → AllFirst rows
    → AllFirst (filter p rows)
filter_first p [] h = tt
filter_first p (row ∷ rows) h = by (p row) refl (filter_first p rows h.1)
  where
    by : (test : Bool) → p row ≡ test → AllFirst (filter p rows) → AllFirst (filter p (row ∷ rows))
    by true e more = rw e (h.0, more)
    by false e more = rw e more

in_first : (shard : ℕ) (id : Id) (rows : List ChunkRow) → shard ≡ 0 → AllFirst rows
    → shard_in shard id rows ≡ 0
in_first shard id [] e h = e
in_first shard id (row ∷ rows) e h = in_first (if begins_by id row.from then row.shard else shard)
    id rows (either_first (begins_by id row.from) row.shard shard h.0 e) h.1
  where
    either_first : (test : Bool) (a b : ℕ) → a ≡ 0 → b ≡ 0 → (if test then a else b) ≡ 0
    either_first true a b x y = x
    either_first false a b x y = y

pub only_shard : (m : Map) (ns : List ℕ) (id : Id) → IsMap m → m.shards ≡ 1 → shard_of m ns id ≡ 0
only_shard m ns id is one =
    let none : fault_behind 1 0 [] m.rows ≡ None = ap
    (λ (shards : ℕ). fault_behind shards 0 [] m.rows) (sym one) ∙ is in
    in_first 0 id (ranges_of ns m.rows) refl (filter_first _ m.rows (rows_first 0 [] m.rows none))

-- The part.

goes_by : (place : Id → ℕ) (item : InsertItem) (o : Option Id) → id_in item.doc ≡ o
    → is_some o ≡ true → ((id : Id) → place id ≡ 0) → goes document_rules (here place 0) item ≡ true
goes_by place item None e some zero = grind arith
goes_by place item (Some id) e some zero = rw (e, goes) (ap (λ (s : ℕ). nat_eq s 0) (zero id))

all_go : (place : Id → ℕ) (docs : List InsertItem) → ((id : Id) → place id ≡ 0)
    → All (λ item. is_some (id_in item.doc) ≡ true) docs
    → filter (goes document_rules (here place 0)) docs ≡ docs
all_go place [] zero h = refl
all_go place (item ∷ docs) zero h =
    let first : goes document_rules (here place 0) item ≡ true =
    goes_by place item (id_in item.doc) refl
    (All-head (λ (i : InsertItem). is_some (id_in i.doc) ≡ true) item docs h) zero in
    rw first (ap (λ (more : List InsertItem). item ∷ more)
    (all_go place docs zero (All-tail (λ (i : InsertItem). is_some (id_in i.doc) ≡ true) item
    docs h)))

pub part_is_whole : (m : Map) (op : Op) → IsMap m → m.shards ≡ 1 → HaveIds op → part_at m op 0 ≡ op
part_is_whole m (Insert ns docs) is one ids = ap (Insert ns)
    (all_go (shard_of m ns) docs (λ id. only_shard m ns id is one) ids)
part_is_whole m (Find ns wanted down limit) is one ids = refl
part_is_whole m (Update ns items) is one ids = refl
part_is_whole m (Delete ns items) is one ids = refl

-- The reply.

capped_twice : (n : ℕ) → capped (capped n + 0) ≡ capped n
capped_twice n = omega arith

counts_one : (a b : ℕ) → merge_counts (Count (capped a) (capped b) ∷ []) ≡ Count (capped a)
    (capped b)
counts_one a b = ap₂ (λ (x y : ℕ). Count x y) (capped_twice a) (capped_twice b)

met_one : (a : ℕ) → merge_counts (Count (capped a) 0 ∷ []) ≡ Count (capped a) 0
met_one a = ap₂ (λ (x y : ℕ). Count x y) (capped_twice a) refl

-- what is told of counts
met_case : (op : Op) (write : Row → Write) (d : Doing)
    → ((parts : List OpReply) → merge op parts ≡ merge_counts parts)
    → outcome document_rules op (meaning_of count_met write d ∷ [])
    ≡ reply_of (meaning_of count_met write d)
met_case op write (Err e) merges = refl
met_case op write (Ok done) merges = ap Ok (merges (count_met done ∷ []) ∙ met_one _)

both_case : (op : Op) (write : Row → Write) (d : Doing)
    → ((parts : List OpReply) → merge op parts ≡ merge_counts parts)
    → outcome document_rules op (meaning_of count_both write d ∷ []) ≡ reply_of
    (meaning_of count_both write d)
both_case op write (Err e) merges = refl
both_case op write (Ok done) merges = ap Ok (merges (count_both done ∷ []) ∙ counts_one _ _)

all_at : (rows : List Row) → at (here (λ id. 0) 0) rows ≡ rows
all_at [] = refl
all_at (row ∷ rows) = ap (λ (more : List Row). row ∷ more) (all_at rows)

all_once : (rows : List Row) → AreOnce (λ id. 0) (0 ∷ []) rows
all_once [] = tt
all_once (row ∷ rows) = (refl, all_once rows)

pub one_merges : (op : Op) (rows : List Row) → IsRising rows → AreKnown document_rules rows
    → outcome document_rules op (eval op rows ∷ []) ≡ reply_of (eval op rows)
one_merges (Insert ns docs) rows rises known = met_case (Insert ns docs) _ _ (λ parts. refl)
one_merges (Update ns items) rows rises known = both_case (Update ns items) _ _ (λ parts. refl)
one_merges (Delete ns items) rows rises known = met_case (Delete ns items) _ _ (λ parts. refl)
one_merges (Find ns wanted down limit) rows rises known =
    let op = Find ns wanted down limit in
    let whole = replies_merge document_rules (λ id. 0) (0 ∷ []) op rows rises
    (known, all_once (matching document_rules wanted rows)) in
    sym (whole
    ∙ ap (λ (there : List Row). outcome document_rules op (eval op there ∷ [])) (all_at rows))
