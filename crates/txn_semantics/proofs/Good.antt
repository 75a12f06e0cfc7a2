-- What holds of the ids that a statement met_by, changes and refuses.
use Rattle.std.proofs.Common.{◌≡◌, List, [], ◌∷◌, Bool, true, false, cond, refl, filter, take}
use Rattle.std.proofs.Common.{Result, Ok, Err, Option, Some, None, if◌then◌else◌}
use Rattle.std.specs.declared.cmp.Ordering.{Ordering}
use Rattle.std.specs.declared.cmp.Ordering.TheVariants.{Less, Equal, Greater}
use Rattle.txn_types.specs.declared.id.Id.{Id}
use Rattle.txn_types.specs.declared.operation.What.{What}
use Rattle.txn_types.specs.declared.operation.What.TheVariants.{Duplicate}
use Rattle.txn_types.specs.declared.filter.Filter.{Filter}
use Rattle.txn_types.specs.declared.operation.InsertItem.{InsertItem}
use Rattle.txn_types.specs.declared.operation.UpdateItem.{UpdateItem}
use Rattle.txn_types.specs.declared.operation.DeleteItem.{DeleteItem}
use Rattle.bson_core.specs.Fields.{Document}
use Rattle.txn_semantics.specs.Effect.{DocumentRules, Done, Doing, nothing, with_done, after, each}
use Rattle.txn_semantics.specs.Effect.{through, matching, met_by, insert_new, insert_step, updated}
use Rattle.txn_semantics.specs.Effect.{update_step, delete_step}
use Rattle.txn_semantics.specs.Rows.{Row, at, laid_over, put_row, holds_id}
use Rattle.txn_semantics.specs.Splits.{OnDone, Along}
use Rattle.txn_semantics.proofs.Merged.{AllIds, all_append}
use Rattle.txn_types.specs.Order.{id_cmp}

abbrev pub IsGood : (Id → Type 0) → Doing → Type 0
IsGood G (Ok d) = AllIds G d.met × AllIds G d.changed
IsGood G (Err e) = G e.id

good_with : (G : Id → Type 0) (d : Done) (r : Doing) → AllIds G d.met × AllIds G d.changed
    → IsGood G r → IsGood G (with_done d r)
good_with G d (Ok m) h more =
    (all_append G d.met m.met h.0 more.0, all_append G d.changed m.changed h.1 more.1)
good_with G d (Err e) h more = more

good_after : (G : Id → Type 0) (r : Doing) (next : Done → Doing) → IsGood G r
    → OnDone r (λ d. IsGood G (next d)) → IsGood G (after r next)
good_after G (Ok d) next h more = good_with G d (next d) h more
good_after G (Err e) next h more = h

on_done : (r : Doing) (P Q : Done → Type 0) → ((d : Done) → P d → Q d) → OnDone r P → OnDone r Q
on_done (Ok d) P Q f h = f d h
on_done (Err e) P Q f h = tt

pub through_good : {I : Type 0} (G : Id → Type 0) (P : I → List Row → Type 0)
    (step : I → List Row → Doing) (left : List Row → List Row → List Row)
    → ((item : I) (rows : List Row) → P item rows → IsGood G (step item rows))
    → (items : List I) (rows : List Row) → Along P step left items rows
    → IsGood G (through step left items rows)
through_good G P step left good [] rows along = (tt, tt)
through_good G P step left good (item ∷ items) rows along =
    good_after G (step item rows) (λ d. through step left items (left rows d.changed))
    (good item rows along.0)
    (on_done (step item rows) (λ d. Along P step left items (left rows d.changed))
    (λ d. IsGood G (through step left items (left rows d.changed)))
    (λ d h. through_good G P step left good items (left rows d.changed) h) along.1)

anyway : (r : Doing) (P : Type 0) → P → OnDone r (λ _. P)
anyway (Ok d) P h = h
anyway (Err e) P h = tt

each_good : (G : Id → Type 0) (act : Row → Doing) → ((row : Row) → G row.0 → IsGood G (act row))
    → (rows : List Row) → AllIds G rows → IsGood G (each act rows)
each_good G act good [] h = (tt, tt)
each_good G act good (row ∷ rows) h = good_after G (act row) (λ _. each act rows) (good row h.0)
    (anyway (act row) (IsGood G (each act rows)) (each_good G act good rows h.1))

all_one : (G : Id → Type 0) (rows : List Row) → AllIds G rows → AllIds G (take 1 rows)
all_one G [] h = tt
all_one G (row ∷ rows) h = (h.0, tt)

all_meets : (G : Id → Type 0) (w : DocumentRules) (f : Filter) (many : Bool) (rows : List Row)
    → AllIds G (matching w f rows) → AllIds G (met_by w f many rows)
all_meets G w f true rows h = h
all_meets G w f false rows h = all_one G (matching w f rows) h

updated_changed : (G : Id → Type 0) (row : Row) (doc : Document) (b : Bool) → G row.0
    → AllIds G (if b then [] else ((row.0, doc) ∷ []))
updated_changed G row doc true h = tt
updated_changed G row doc false h = (h, tt)

updated_good_case : (G : Id → Type 0) (w : DocumentRules) (item : UpdateItem) (row : Row)
    (r : Result Document What) → G row.0 → IsGood G (elim r [
      | Err what ↦ Err (record { index = item.index; id = row.0; what = what })
      | Ok doc ↦
          Ok (record {
            met = row ∷ [];
            changed = if w.same row.1 doc then [] else ((row.0, doc) ∷ []);
          })
    ])
updated_good_case G w item row (Ok doc) h =
    ((h, tt), updated_changed G row doc (w.same row.1 doc) h)
updated_good_case G w item row (Err what) h = h

pub update_good : (G : Id → Type 0) (w : DocumentRules) (item : UpdateItem) (rows : List Row)
    → AllIds G (matching w item.filter rows) → IsGood G (update_step w item rows)
update_good G w item rows h =
    each_good G (updated w item) (λ row g. updated_good_case G w item row (w.apply item.update
    row.1) g) (met_by w item.filter item.many rows) (all_meets G w item.filter item.many rows h)

pub delete_good : (G : Id → Type 0) (w : DocumentRules) (item : DeleteItem) (rows : List Row)
    → AllIds G (matching w item.filter rows) → IsGood G (delete_step w item rows)
delete_good G w item rows h = let all : AllIds G (met_by w item.filter item.many rows) =
    all_meets G w item.filter item.many rows h in (all, all)

new_good_case : (G : Id → Type 0) (item : InsertItem) (id : Id) (b : Bool) → G id
    → IsGood G (if b then Err (record { index = item.index; id = id; what = Duplicate })
    else Ok (record { met = (id, item.doc) ∷ []; changed = (id, item.doc) ∷ [] }))
new_good_case G item id true h = h
new_good_case G item id false h = ((h, tt), (h, tt))

insert_good_case : (G : Id → Type 0) (item : InsertItem) (rows : List Row) (o : Option Id)
    → ((id : Id) → o ≡ Some id → G id)
    → IsGood G (elim o [ None ↦ Ok nothing | Some id ↦ insert_new item rows id ])
insert_good_case G item rows None h = (tt, tt)
insert_good_case G item rows (Some id) h = new_good_case G item id (holds_id id rows) (h id refl)

pub insert_good : (G : Id → Type 0) (w : DocumentRules) (item : InsertItem) (rows : List Row)
    → ((id : Id) → w.id_in item.doc ≡ Some id → G id) → IsGood G (insert_step w item rows)
insert_good G w item rows h = insert_good_case G item rows (w.id_in item.doc) h

-- rows whose ids are good stay so
all_put_case : (G : Id → Type 0) (id : Id) (doc : Document) (row : Row) (rows : List Row)
    (o : Ordering) → G id → AllIds G (row ∷ rows) → AllIds G (put_row id doc rows)
    → AllIds G (elim o [
      | Less ↦ (id, doc) ∷ row ∷ rows
      | Equal ↦ (id, doc) ∷ rows
      | Greater ↦ row ∷ put_row id doc rows
    ])
all_put_case G id doc row rows Less h all more = (h, all)
all_put_case G id doc row rows Equal h all more = (h, all.1)
all_put_case G id doc row rows Greater h all more = (all.0, more)

all_put : (G : Id → Type 0) (id : Id) (doc : Document) (rows : List Row) → G id → AllIds G rows
    → AllIds G (put_row id doc rows)
all_put G id doc [] h all = (h, tt)
all_put G id doc (row ∷ rows) h all =
    all_put_case G id doc row rows (id_cmp id row.0) h all (all_put G id doc rows h all.1)

pub all_laid : (G : Id → Type 0) (rows others : List Row) → AllIds G rows → AllIds G others
    → AllIds G (laid_over rows others)
all_laid G rows [] h g = h
all_laid G rows (row ∷ others) h g =
    all_laid G (put_row row.0 row.1 rows) others (all_put G row.0 row.1 rows g.0 h) g.1

all_kept_case : (G : Id → Type 0) (row : Row) (rows : List Row) (b : Bool) → G row.0 → AllIds G rows
    → AllIds G (cond b (row ∷ rows) rows)
all_kept_case G row rows true h more = (h, more)
all_kept_case G row rows false h more = more

pub all_filter : (G : Id → Type 0) (q : Row → Bool) (rows : List Row) → AllIds G rows
    → AllIds G (filter q rows)
all_filter G q [] h = tt
all_filter G q (row ∷ rows) h =
    all_kept_case G row (filter q rows) (q row) h.0 (all_filter G q rows h.1)

abbrev pub AllItems : {I : Type 0} → (I → Type 0) → List I → Type 0
AllItems P [] = Unit {0}
AllItems P (item ∷ items) = P item × AllItems P items

along_case : (G : Id → Type 0) (r : Doing) (next : Done → Type 0) → IsGood G r
    → ((d : Done) → AllIds G d.changed → next d) → OnDone r next
along_case G (Ok d) next h f = f d h.1
along_case G (Err e) next h f = tt

pub along_good : {I : Type 0} (G : Id → Type 0) (Q : I → Type 0) (step : I → List Row → Doing)
    (left : List Row → List Row → List Row)
    → ((rows changed : List Row) → AllIds G rows → AllIds G changed → AllIds G (left rows changed))
    → ((item : I) (rows : List Row) → Q item × AllIds G rows → IsGood G (step item rows))
    → (items : List I) (rows : List Row) → AllItems Q items → AllIds G rows
    → Along (λ item rows. Q item × AllIds G rows) step left items rows
along_good G Q step left keeps good [] rows all h = tt
along_good G Q step left keeps good (item ∷ items) rows all h = (
  (all.0, h),
  along_case G (step item rows) (λ d. Along (λ item rows. Q item × AllIds G rows) step left items
      (left rows d.changed)) (good item rows (all.0, h))
      (λ d c. along_good G Q step left keeps good items (left rows d.changed) all.1
      (keeps rows d.changed h c)),
)

-- a part's rows are its own
at_own_case : {A : Type 0} (p : Id → Bool) (row : Id × A) (rows : List (Id × A)) (b : Bool)
    → p row.0 ≡ b → AllIds (λ id. p id ≡ true) rows
    → AllIds (λ id. p id ≡ true) (cond b (row ∷ rows) rows)
at_own_case p row rows true h more = (h, more)
at_own_case p row rows false h more = more

pub at_own : {A : Type 0} (p : Id → Bool) (rows : List (Id × A))
    → AllIds (λ id. p id ≡ true) (at p rows)
at_own p [] = tt
at_own p (row ∷ rows) = at_own_case p row (at p rows) (p row.0) refl (at_own p rows)
