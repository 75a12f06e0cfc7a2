-- How the meaning of a statement over all rows follows from its meanings over the rows of several
-- shards.
use Rattle.std.specs.Prelude.{◌≡◌, ◌<◌, ◌+◌, ℕ, Bool, false, List, [], ◌∷◌, Option, Some, None}
use Rattle.std.specs.Prelude.{Result, Ok, Err, filter, map, nat_eq, if◌then◌else◌}
use Rattle.std.specs.declared.cmp.Ordering.{Ordering}
use Rattle.std.specs.Ordering.{ordering_then, nat_cmp, is_lt}
use Rattle.txn_types.specs.Order.{id_cmp}
use Rattle.txn_types.specs.declared.id.Id.{Id}
use Rattle.txn_types.specs.declared.operation.InsertItem.{InsertItem}
use Rattle.txn_types.specs.declared.operation.Op.{Op}
use Rattle.txn_types.specs.declared.operation.Op.TheVariants.{Insert, Find, Update, Delete}
use Rattle.txn_types.specs.declared.operation.OpErr.{OpErr}
use Rattle.txn_types.specs.declared.operation.OpReply.{OpReply}
use Rattle.txn_types.specs.declared.write.Write.{Write}
use Rattle.txn_types.specs.declared.write.Write.TheVariants.{Put, Delete as Removed}
use Rattle.txn_semantics.specs.Rows.{Row, laid_over, at}
use Rattle.txn_semantics.specs.Effect.{DocumentRules, Done, Doing, AreKnown, matching, update_step}
use Rattle.txn_semantics.specs.Effect.{delete_step, without}
use Rattle.txn_semantics.specs.Found.{joined}
use Rattle.txn_semantics.specs.Meaning.{Meaning, eval_by, reply_of, writes_of}
use Rattle.txn_semantics.specs.Merge.{merge_by}

-- the ids that stand at the shard
abbrev pub here : (Id → ℕ) → ℕ → Id → Bool
here place s id = nat_eq (place id) s

-- how often a list of shards names this one
abbrev pub times : ℕ → List ℕ → ℕ
times k [] = 0
times k (s ∷ shards) = (if nat_eq k s then 1 else 0) + times k shards

-- each row stands at a shard that is named once
abbrev pub AreOnce : (Id → ℕ) → List ℕ → List Row → Type 0
AreOnce place shards [] = Unit {0}
AreOnce place shards (row ∷ rows) = (times (place row.0) shards ≡ 1) × AreOnce place shards rows

-- the items' places in their command are past this one
abbrev pub AreBehind : {I : Type 0} → (I → ℕ) → ℕ → List I → Type 0
AreBehind index n [] = Unit {0}
AreBehind index n (item ∷ items) = (n < index item) × AreBehind index n items

-- the items' places in their command rise
abbrev pub IndicesRise : {I : Type 0} → (I → ℕ) → List I → Type 0
IndicesRise index [] = Unit {0}
IndicesRise index (item ∷ items) = AreBehind index (index item) items × IndicesRise index items

-- what holds of rows met and left, where nothing was refused
abbrev pub OnDone : Doing → (Done → Type 0) → Type 0
OnDone (Ok done) P = P done
OnDone (Err e) P = Unit {0}

-- what holds at each item, over the rows that it finds
abbrev pub Along : {I : Type 0} → (I → List Row → Type 0) → (I → List Row → Doing)
    → (List Row → List Row → List Row) → List I → List Row → Type 0
Along P step left [] rows = Unit {0}
Along P step left (item ∷ items) rows = P item rows
    × OnDone (step item rows) (λ done. Along P step left items (left rows done.changed))

-- the rows stand at the shard
abbrev pub AreAt : (Id → ℕ) → ℕ → List Row → Type 0
AreAt place s [] = Unit {0}
AreAt place s (row ∷ rows) = (place row.0 ≡ s) × AreAt place s rows

-- the rows stand at one shard
abbrev pub AreAtOne : (Id → ℕ) → List Row → Type 0
AreAtOne place rows = (s : ℕ) × AreAt place s rows

-- an item for one document meets rows of one place
abbrev pub OneMeetsOne : (Id → ℕ) → Bool → List Row → Type 0
OneMeetsOne place many rows = many ≡ false → AreAtOne place rows

-- errors by index, then by id
abbrev pub err_cmp : OpErr → OpErr → Ordering
err_cmp e f = ordering_then (nat_cmp e.index f.index) (id_cmp e.id f.id)

-- the first of an error and of what may be another
abbrev pub lesser : OpErr → Option OpErr → OpErr
lesser e None = e
lesser e (Some f) = if is_lt (err_cmp f e) then f else e

-- the first of the shards' errors
abbrev pub least_err : List Meaning → Option OpErr
least_err [] = None
least_err (m ∷ parts) =
    elim m [ Ok done ↦ least_err parts | Err e ↦ Some (lesser e (least_err parts)) ]

-- what the shards replied that weren't refused
abbrev pub replies : List Meaning → List OpReply
replies [] = []
replies (m ∷ parts) = elim m [ Ok done ↦ done.0 ∷ replies parts | Err e ↦ replies parts ]

-- what is told of the answers of several shards
abbrev pub outcome : DocumentRules → Op → List Meaning → Result OpReply OpErr
outcome w op parts =
    elim (least_err parts) [ None ↦ Ok (merge_by w op (replies parts)) | Some e ↦ Err e ]

-- the document belongs where its id passes the test
abbrev pub goes : DocumentRules → (Id → Bool) → InsertItem → Bool
goes w p item = elim (w.id_in item.doc) [ None ↦ false | Some id ↦ p id ]

-- the part of an operation that goes to a shard
abbrev pub part_of : DocumentRules → (Id → Bool) → Op → Op
part_of w p (Insert ns docs) = Insert ns (filter (goes w p) docs)
part_of w p (Find ns wanted down limit) = Find ns wanted down limit
part_of w p (Update ns items) = Update ns items
part_of w p (Delete ns items) = Delete ns items

-- the id of what is put or taken away
abbrev pub written_id : Write → Id
written_id (Put ns id doc) = id
written_id (Removed ns id) = id

-- each document goes to a shard that is named once
abbrev pub GoOnce : DocumentRules → (Id → ℕ) → List ℕ → List InsertItem → Type 0
GoOnce w place shards [] = Unit {0}
GoOnce w place shards (item ∷ items) = ((id : Id) → w.id_in item.doc ≡ Some id
    → times (place id) shards ≡ 1) × GoOnce w place shards items

-- the rows that an item meets stand at shards that are named once, and at one shard where the item
-- is for one document
abbrev pub Meets : DocumentRules → (Id → ℕ) → List ℕ → Bool → List Row → Type 0
Meets w place shards many rows = OneMeetsOne place many rows × AreOnce place shards rows

-- what a statement must keep to, over these rows, to be told from its parts
abbrev pub IsSplit : DocumentRules → (Id → ℕ) → List ℕ → Op → List Row → Type 0
IsSplit w place shards (Insert ns docs) rows = IndicesRise (λ item. item.index) docs
    × GoOnce w place shards docs
IsSplit w place shards (Find ns wanted down limit) rows = AreKnown w rows
    × AreOnce place shards (matching w wanted rows)
IsSplit w place shards (Update ns items) rows = IndicesRise (λ item. item.index) items
    × Along (λ item rows. Meets w place shards item.many (matching w item.filter rows))
    (update_step w) laid_over items rows
IsSplit w place shards (Delete ns items) rows = IndicesRise (λ item. item.index) items
    × Along (λ item rows. Meets w place shards item.many (matching w item.filter rows))
    (delete_step w) without items rows

-- the meanings of the parts
abbrev pub parts_of : DocumentRules → (Id → ℕ) → Op → List Row → ℕ → Meaning
parts_of w place op rows s = eval_by w (part_of w (here place s) op) (at (here place s) rows)

-- the writes of a shard are those whose ids pass the test
abbrev pub AreWrites : (Id → Bool) → List Write → Meaning → Type 0
AreWrites p writes (Ok m) = m.1 ≡ filter (λ write. p (written_id write)) writes
AreWrites p writes (Err e) = ⊥

-- each shard's writes are those of the whole that are placed there
abbrev pub WritesSplit : DocumentRules → (Id → ℕ) → Op → List Row → Type 0
WritesSplit w place op rows = (m : OpReply × List Write) → eval_by w op rows ≡ Ok m → (s : ℕ)
    → AreWrites (here place s) m.1 (parts_of w place op rows s)

-- what is told of the whole is what is told of the shards' answers
abbrev pub RepliesMerge : DocumentRules → (Id → ℕ) → List ℕ → Op → List Row → Type 0
RepliesMerge w place shards op rows =
    reply_of (eval_by w op rows) ≡ outcome w op (map (parts_of w place op rows) shards)

-- writes under their ids
abbrev pub keyed : List Write → List (Id × Write)
keyed writes = map (λ write. (written_id write, write)) writes

-- the shards' writes, joined by id, are those of the whole
abbrev pub WritesJoin : DocumentRules → (Id → ℕ) → List ℕ → Op → List Row → Type 0
WritesJoin w place shards op rows = (m : OpReply × List Write) → eval_by w op rows ≡ Ok m
    → joined [] (map (λ s. keyed (writes_of (parts_of w place op rows s))) shards) ≡ keyed m.1
