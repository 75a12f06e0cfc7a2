-- What is written of operations is read again, whatever stands after it.
use Rattle.std.proofs.Common.{◌≡◌, ℕ, ◌^◌, ◌+◌, ◌≤◌, ◌<◌, Bool, true, List, [], ◌∷◌, ◌++◌, length}
use Rattle.std.proofs.Common.{Option, Some, None, Ok, refl, sym, ap, ◌∙◌, append_assoc}
use Rattle.std.proofs.Common.{length-append, arith}
use Rattle.std.specs.List.{All, flat_map}
use Rattle.bson_core.specs.declared.value.Value.TheViews.{out-Value}
use Rattle.bson_core.specs.Spelling.{bit, spelling}
use Rattle.txn_types.specs.Ids.{id_in}
use Rattle.txn_types.specs.declared.id.Id.{Id}
use Rattle.txn_types.specs.declared.filter.Filter.{Filter}
use Rattle.txn_types.specs.declared.operation.DeleteItem.{DeleteItem}
use Rattle.txn_types.specs.declared.operation.InsertItem.{InsertItem}
use Rattle.txn_types.specs.declared.operation.Op.{Op}
use Rattle.txn_types.specs.declared.operation.Op.TheVariants as op
use Rattle.txn_types.specs.declared.operation.UpdateItem.{UpdateItem}
use Rattle.txn_types.specs.declared.update.Update.{Update}
use Rattle.txn_types.specs.declared.update.Update.TheVariants as update
use Rattle.txn_types.specs.declared.update.UpdateKind.{UpdateKind}
use Rattle.txn_types.specs.declared.update.UpdateKind.TheVariants as kind
use Rattle.txn_types.specs.declared.update.UpdateOp.{UpdateOp}
use Rattle.node_wire.specs.Reading.{is_namespace, code_at, one_to, update_kind_of, update_op_at}
use Rattle.node_wire.specs.Reading.{replace_at, ops_at, update_at, insert_item_at, update_item_at}
use Rattle.node_wire.specs.Reading.{delete_item_at, counted_at, text_at, find_at, op_by, op_at}
use Rattle.node_wire.specs.Spelling.{word, long, text_bytes, value_bytes, counted, filter_bytes}
use Rattle.node_wire.specs.Spelling.{update_code, update_op_bytes, update_bytes, insert_item_bytes}
use Rattle.node_wire.specs.Spelling.{update_item_bytes, delete_item_bytes, op_bytes}
use Rattle.node_laws.specs.Fits.{ListFits, OuterFilterFits, UpdateOpFits, UpdateFits}
use Rattle.node_laws.specs.Fits.{InsertItemFits, UpdateItemFits, DeleteItemFits, OpFits}
use Rattle.node_laws.proofs.Parts.{IsReadAs, word_again, long_again, flag_again, code_again}
use Rattle.node_laws.proofs.Parts.{counted_again, text_again, document_again, value_again}
use Rattle.node_laws.proofs.Filters.{name_again, outer_again}

-- Updates.

kind_again : (end : ℕ) (k : UpdateKind)
    → IsReadAs (code_at update_kind_of end) (update_code k ∷ []) k
kind_again end kind.Set = code_again update_kind_of end 1 kind.Set refl
kind_again end kind.Unset = code_again update_kind_of end 2 kind.Unset refl
kind_again end kind.Inc = code_again update_kind_of end 3 kind.Inc refl

update_op_again : (end : ℕ) (o : UpdateOp) → UpdateOpFits o
    → IsReadAs (update_op_at end) (update_op_bytes o) o
unfolding update_op_at
update_op_again end o h rest =
    let t = text_bytes o.name in
    let b = value_bytes o.value in
    rw (
      append_assoc t b rest,
      kind_again end o.kind (t ++ (b ++ rest)),
      name_again end o.name h.0 (b ++ rest),
      value_again end o.value h.1 rest,
      h.2,
    ) refl

update_op_long : (o : UpdateOp) → 1 ≤ length (update_op_bytes o)
update_op_long o = omega arith

pub update_again : (end : ℕ) (u : Update) → UpdateFits u
    → IsReadAs (update_at end) (update_bytes u) u
unfolding update_at
update_again end (update.Replace doc) h rest =
    rw (code_again (one_to 2) end 1 1 refl (spelling doc ++ rest), document_again end doc h rest)
    refl
update_again end (update.Ops ops) h rest =
    let b = counted update_op_bytes ops in
    rw (
      code_again (one_to 2) end 2 2 refl (b ++ rest),
      counted_again (update_op_at end) update_op_bytes UpdateOpFits (update_op_again end)
          update_op_long end ops h rest,
    ) refl

-- Items.

insert_item_again : (end : ℕ) (item : InsertItem) → InsertItemFits item
    → IsReadAs (insert_item_at end) (insert_item_bytes item) item
unfolding insert_item_at
insert_item_again end item h rest =
    let a = word item.index in
    let b = spelling item.doc in
    rw (
      append_assoc a b rest,
      word_again end item.index h.0 (b ++ rest),
      document_again end item.doc h.1 rest,
      h.2,
    ) refl

insert_item_long : (item : InsertItem) → 1 ≤ length (insert_item_bytes item)
unfolding word
insert_item_long item = omega arith

update_item_again : (end : ℕ) (item : UpdateItem) → UpdateItemFits item
    → IsReadAs (update_item_at end) (update_item_bytes item) item
unfolding update_item_at
update_item_again end item h rest =
    let a = word item.index in
    let b = filter_bytes item.filter in
    let d = update_bytes item.update in
    let e = bit item.many ∷ [] in
    rw (
      append_assoc (a ++ b ++ d) e rest,
      append_assoc (a ++ b) d (e ++ rest),
      append_assoc a b (d ++ (e ++ rest)),
      word_again end item.index h.0 (b ++ (d ++ (e ++ rest))),
      outer_again end item.filter h.1 (d ++ (e ++ rest)),
      update_again end item.update h.2 (e ++ rest),
      flag_again end item.many rest,
    ) refl

update_item_long : (item : UpdateItem) → 1 ≤ length (update_item_bytes item)
unfolding word
update_item_long item = omega arith

delete_item_again : (end : ℕ) (item : DeleteItem) → DeleteItemFits item
    → IsReadAs (delete_item_at end) (delete_item_bytes item) item
unfolding delete_item_at
delete_item_again end item h rest =
    let a = word item.index in
    let b = filter_bytes item.filter in
    let e = bit item.many ∷ [] in
    rw (
      append_assoc (a ++ b) e rest,
      append_assoc a b (e ++ rest),
      word_again end item.index h.0 (b ++ (e ++ rest)),
      outer_again end item.filter h.1 (e ++ rest),
      flag_again end item.many rest,
    ) refl

delete_item_long : (item : DeleteItem) → 1 ≤ length (delete_item_bytes item)
unfolding word
delete_item_long item = omega arith

-- Operations.

find_again : (ns : List ℕ) (end : ℕ) (filter : Filter) (down : Bool) (limit : ℕ)
    → OuterFilterFits filter → limit < 2 ^ 64 → IsReadAs (find_at ns end) (filter_bytes filter
    ++ bit down ∷ long limit) (op.Find ns filter down limit)
unfolding find_at
find_again ns end filter down limit h k rest =
    let a = filter_bytes filter in
    let b = long limit in
    rw (
      append_assoc a (bit down ∷ b) rest,
      outer_again end filter h (bit down ∷ (b ++ rest)),
      flag_again end down (b ++ rest),
      long_again end limit k rest,
    ) refl

-- after its kind and its namespace
by_again : (end kind : ℕ) (ns bytes : List ℕ) (o : Op) → one_to 4 kind ≡ Some kind
    → is_namespace ns ≡ true → length ns < 2 ^ 32 → IsReadAs (op_by kind ns end) bytes o
    → IsReadAs (op_at end) (kind ∷ text_bytes ns ++ bytes) o
unfolding op_at
by_again end kind ns bytes o is named small h rest =
    let t = text_bytes ns in
    rw (
      append_assoc t bytes rest,
      code_again (one_to 4) end kind kind is (t ++ (bytes ++ rest)),
      text_again is_namespace end ns named small (bytes ++ rest),
      h rest,
    ) refl

insert_by : (end : ℕ) (ns : List ℕ) (items : List InsertItem) → ListFits InsertItemFits items
    → IsReadAs (op_by 1 ns end) (counted insert_item_bytes items) (op.Insert ns items)
unfolding op_by
insert_by end ns items h rest = rw (counted_again (insert_item_at end) insert_item_bytes
    InsertItemFits (insert_item_again end) insert_item_long end items h rest) refl

update_by : (end : ℕ) (ns : List ℕ) (items : List UpdateItem) → ListFits UpdateItemFits items
    → IsReadAs (op_by 3 ns end) (counted update_item_bytes items) (op.Update ns items)
unfolding op_by
update_by end ns items h rest = rw (counted_again (update_item_at end) update_item_bytes
    UpdateItemFits (update_item_again end) update_item_long end items h rest) refl

delete_by : (end : ℕ) (ns : List ℕ) (items : List DeleteItem) → ListFits DeleteItemFits items
    → IsReadAs (op_by 4 ns end) (counted delete_item_bytes items) (op.Delete ns items)
unfolding op_by
delete_by end ns items h rest = rw (counted_again (delete_item_at end) delete_item_bytes
    DeleteItemFits (delete_item_again end) delete_item_long end items h rest) refl

find_by : (end : ℕ) (ns : List ℕ) (filter : Filter) (down : Bool) (limit : ℕ)
    → OuterFilterFits filter → limit < 2 ^ 64 → IsReadAs (op_by 2 ns end) (filter_bytes filter
    ++ bit down ∷ long limit) (op.Find ns filter down limit)
unfolding op_by
find_by end ns filter down limit h k rest = find_again ns end filter down limit h k rest

pub op_again : (end : ℕ) (o : Op) → OpFits o → IsReadAs (op_at end) (op_bytes o) o
op_again end (op.Insert ns docs) h rest = by_again end 1 ns (counted insert_item_bytes docs)
    (op.Insert ns docs) refl h.0.0 h.0.1 (insert_by end ns docs h.1) rest
op_again end (op.Find ns filter down limit) h rest =
    let b = bit down ∷ long limit in
    ap (λ (bytes : List ℕ). op_at end (2 ∷ bytes))
    (ap (λ (xs : List ℕ). xs ++ rest) (append_assoc (text_bytes ns) (filter_bytes filter) b))
    ∙ by_again end 2 ns (filter_bytes filter ++ b) (op.Find ns filter down limit) refl h.0.0 h.0.1
    (find_by end ns filter down limit h.1 h.2) rest
op_again end (op.Update ns items) h rest = by_again end 3 ns (counted update_item_bytes items)
    (op.Update ns items) refl h.0.0 h.0.1 (update_by end ns items h.1) rest
op_again end (op.Delete ns items) h rest = by_again end 4 ns (counted delete_item_bytes items)
    (op.Delete ns items) refl h.0.0 h.0.1 (delete_by end ns items h.1) rest
