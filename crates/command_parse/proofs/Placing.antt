-- The items of an operation stand at 0, 1, 2 and so on, and they are at most 100,000.
use Rattle.std.proofs.Common.{◌≡◌, ◌≤◌, ℕ, ◌+◌, Bool, true, false, cond, leb, List, [], ◌∷◌, ◌++◌}
use Rattle.std.proofs.Common.{length, map, Result, Ok, Err, refl, sym, ap, subst, ◌∙◌, arith, codes}
use Rattle.std.proofs.Common.{is_some}
use Rattle.std.specs.Prelude.{◌&&◌}
use Rattle.std.proofs.lemmas.Bool.{leb-true}
use Rattle.outcomes.specs.Bind.{◌>>=◌}
use Rattle.outcomes.proofs.Binding.{ok_is}
use Rattle.outcomes.proofs.Binding.{bind_ok}
use Rattle.bson_core.specs.Fields.{Document}
use Rattle.op_msg.specs.declared.frame.Frame.{Frame}
use Rattle.txn_types.specs.Ids.{id_name, id_in}
use Rattle.txn_types.specs.declared.operation.Op.{Op}
use Rattle.txn_types.specs.declared.operation.Op.TheVariants as op
use Rattle.txn_types.specs.declared.operation.InsertItem.{InsertItem}
use Rattle.txn_types.specs.declared.operation.UpdateItem.{UpdateItem}
use Rattle.txn_types.specs.declared.operation.DeleteItem.{DeleteItem}
use Rattle.crud_parse.specs.declared.error.CrudErr.{CrudErr}
use Rattle.crud_parse.specs.declared.error.CrudErr.TheVariants.{WrongKind, Missing}
use Rattle.crud_parse.specs.Results.{with_front}
use Rattle.command_parse.specs.declared.command.Command.TheVariants as command
use Rattle.command_parse.specs.declared.command.Statement.{Statement}
use Rattle.command_parse.specs.declared.command.Statement.TheVariants as statement
use Rattle.command_parse.specs.declared.rules.Batch.{Batch}
use Rattle.command_parse.specs.declared.rules.Batch.TheVariants.{Documents, Changes}
use Rattle.command_parse.specs.declared.rules.Change.TheVariants as change
use Rattle.command_parse.specs.Commands.{list_name}
use Rattle.command_parse.specs.Checks.{or_missing, or_wrong, field_in}
use Rattle.command_parse.specs.Values.{all_in}
use Rattle.crud_parse.specs.Updates.{update_of}
use Rattle.txn_types.specs.declared.filter.Filter.{Filter}
use Rattle.txn_types.specs.declared.update.Update.{Update}
use Rattle.command_parse.specs.Items.{Given, InBody, InSection, documents_in, of_batch_size}
use Rattle.command_parse.specs.Items.{batch_in, each_at, insert_item, update_item, delete_item}
use Rattle.command_parse.specs.Items.{query_in, many_in}
use Rattle.command_parse.specs.Operations.{checked, namespace_in, given_in, batch_under}
use Rattle.command_parse.specs.Operations.{filter_under, falls_under, limit_under, built, op_of}
use Rattle.command_parse.specs.Places.{counted, HasPlaces}
use Rattle.bson_core.specs.declared.value.Value.TheViews.{out-Value}

-- Places.

each_placed : {A B : Type 0} (read : ℕ → A → Result B CrudErr) (index : B → ℕ)
    → ((place : ℕ) (x : A) (y : B) → read place x ≡ Ok y → index y ≡ place)
    → (first : ℕ) (xs : List A) (ys : List B) → each_at read first xs ≡ Ok ys
    → map index ys ≡ counted first (length xs)
each_placed {B = B} read index placed first [] ys e =
    ap (map index) (sym (ok_is {A = List B} [] ys e))
each_placed {B = B} read index placed first (x ∷ xs) ys e =
    let one =
    bind_ok (read first x) (λ y. with_front (y ∷ []) (each_at read (first + 1) xs)) ys e in
    let more = bind_ok (each_at read (first + 1) xs) (λ zs. Ok (one.0 ∷ [] ++ zs)) ys one.2 in
    let rest = each_placed read index placed (first + 1) xs more.0 more.1 in
    let front = placed first x one.0 one.1 in
    ap (map index) (sym (ok_is {A = List B} (one.0 ∷ more.0) ys more.2))
    ∙ ap (λ (n : ℕ). n ∷ map index more.0) front ∙ ap (λ (l : List ℕ). first ∷ l) rest

insert_placed : (place : ℕ) (doc : Document) (item : InsertItem) → insert_item place doc ≡ Ok item
    → item.index ≡ place
insert_placed place doc item e = by (is_some (id_in doc)) e
  where
    by : (b : Bool) → cond b (Ok (record { index = place; doc = doc })) (Err (Missing id_name))
        ≡ Ok item → item.index ≡ place
    by true e =
        ap (λ (i : InsertItem). i.index) (sym (ok_is (record { index = place; doc = doc }) item e))
    by false e = absurd cc

update_by : (place : ℕ) (q : Result Filter CrudErr) (u : Result Update CrudErr)
    (m : Result Bool CrudErr) (item : UpdateItem)
    → (q >>= λ query. u >>= λ update. m >>= λ many.
    Ok (record { index = place; filter = query; update = update; many = many })) ≡ Ok item
    → item.index ≡ place
update_by place (Ok q) (Ok u) (Ok m) item e = ap (λ (i : UpdateItem).
    i.index) (sym (ok_is (record { index = place; filter = q; update = u; many = m }) item e))
update_by place (Ok q) (Ok u) (Err d) item e = absurd cc
update_by place (Ok q) (Err d) m item e = absurd cc
update_by place (Err d) u m item e = absurd cc

update_placed : (place : ℕ) (doc : Document) (item : UpdateItem) → update_item place doc ≡ Ok item
    → item.index ≡ place
update_placed place doc item e =
    update_by place (query_in doc) (field_in (codes "u") doc >>= update_of) (many_in doc) item e

delete_by : (place : ℕ) (q : Result Filter CrudErr) (a : Result Bool CrudErr) (item : DeleteItem)
    → (q >>= λ query. a >>= λ all. Ok (record { index = place; filter = query; many = all }))
    ≡ Ok item → item.index ≡ place
delete_by place (Ok q) (Ok a) item e = ap (λ (i : DeleteItem).
    i.index) (sym (ok_is (record { index = place; filter = q; many = a }) item e))
delete_by place (Ok q) (Err d) item e = absurd cc
delete_by place (Err d) a item e = absurd cc

delete_placed : (place : ℕ) (doc : Document) (item : DeleteItem) → delete_item place doc ≡ Ok item
    → item.index ≡ place
delete_placed place doc item e = delete_by place (query_in doc) (field_in (codes "limit") doc
    >>= λ value. or_wrong (codes "limit") (all_in (out-Value value))) item e

-- Sizes.

sized : (a b : Bool) (docs got : List Document) (e : CrudErr)
    → cond (a && b) (Ok docs) (Err e) ≡ Ok got → (b ≡ true) × (docs ≡ got)
sized true true docs got e is = (refl, ok_is docs got is)
sized true false docs got e is = absurd cc
sized false b docs got e is = absurd cc

few : (name : List ℕ) (docs got : List Document) → of_batch_size name docs ≡ Ok got
    → length got ≤ 100000
few name docs got e =
    let h = sized (leb 1 (length docs)) (leb (length docs) 100000) docs got (WrongKind name) e in
    let most : length docs ≤ 100000 = leb-true _ _ h.0 in
    omega (arith, ap length h.1)

few_given : (batch : Batch) (given : Given) (got : List Document) → batch_in batch given ≡ Ok got
    → length got ≤ 100000
few_given batch (InBody value) got e =
    let docs = bind_ok (documents_in (list_name batch) (out-Value value))
    (of_batch_size (list_name batch)) got e in
    few (list_name batch) docs.0 got docs.2
few_given batch (InSection docs) got e = few (list_name batch) docs got e

few_under : (batch : Batch) (frame : Frame) (got : List Document) → batch_under batch frame ≡ Ok got
    → length got ≤ 100000
few_under batch frame got e =
    let given = bind_ok (or_missing (list_name batch) (given_in (list_name batch) frame))
    (batch_in batch) got e in
    few_given batch given.0 got given.2

-- Operations.

find_places : (ns : List ℕ) (f : Result Filter CrudErr) (d : Result Bool CrudErr)
    (l : Result ℕ CrudErr) (o : Op)
    → (f >>= λ filter. d >>= λ down. l >>= λ limit. Ok (op.Find ns filter down limit)) ≡ Ok o
    → HasPlaces o
find_places ns (Ok f) (Ok d) (Ok l) o e = subst HasPlaces (ok_is (op.Find ns f d l) o e)
    (record { count = 0; most = omega arith; places = refl })
find_places ns (Ok f) (Ok d) (Err x) o e = absurd cc
find_places ns (Ok f) (Err x) l o e = absurd cc
find_places ns (Err x) d l o e = absurd cc

built_places : (s : Statement) (ns : List ℕ) (frame : Frame) (o : Op) → built s ns frame ≡ Ok o
    → HasPlaces o
built_places statement.Insert ns frame o e =
    let items = bind_ok (batch_under Documents frame
    >>= each_at insert_item 0) (λ docs. Ok (op.Insert ns docs)) o e in
    let docs = bind_ok (batch_under Documents frame) (each_at insert_item 0) items.0 items.1 in
    subst HasPlaces (ok_is (op.Insert ns items.0) o items.2)
    (record {
      count = length docs.0;
      most = few_under Documents frame docs.0 docs.1;
      places = each_placed insert_item (λ item. item.index) insert_placed 0 docs.0 items.0 docs.2;
    })
built_places statement.Find ns frame o e =
    find_places ns (filter_under frame.body) (falls_under frame.body) (limit_under frame.body) o e
built_places statement.Update ns frame o e =
    let items = bind_ok (batch_under (Changes change.Update) frame
    >>= each_at update_item 0) (λ docs. Ok (op.Update ns docs)) o e in
    let docs = bind_ok (batch_under (Changes change.Update) frame) (each_at update_item 0)
    items.0 items.1 in
    subst HasPlaces (ok_is (op.Update ns items.0) o items.2)
    (record {
      count = length docs.0;
      most = few_under (Changes change.Update) frame docs.0 docs.1;
      places = each_placed update_item (λ item. item.index) update_placed 0 docs.0 items.0 docs.2;
    })
built_places statement.Delete ns frame o e =
    let items = bind_ok (batch_under (Changes change.Delete) frame
    >>= each_at delete_item 0) (λ docs. Ok (op.Delete ns docs)) o e in
    let docs = bind_ok (batch_under (Changes change.Delete) frame) (each_at delete_item 0)
    items.0 items.1 in
    subst HasPlaces (ok_is (op.Delete ns items.0) o items.2)
    (record {
      count = length docs.0;
      most = few_under (Changes change.Delete) frame docs.0 docs.1;
      places = each_placed delete_item (λ item. item.index) delete_placed 0 docs.0 items.0 docs.2;
    })

pub has_places : (s : Statement) (frame : Frame) (o : Op) → op_of s frame ≡ Ok o → HasPlaces o
unfolding op_of
has_places s frame o e =
    let first = bind_ok (checked (command.Statement s) frame) _ o e in
    let ns = bind_ok (namespace_in s frame.body) _ o first.2 in
    built_places s ns.0 frame o ns.2
