-- The three kinds of items, place by place.
use Rattle.std.proofs.Common.{◌≡◌, ◌<◌, ℕ, List, [], ◌∷◌, Bool, true, false, cond, not, refl, ap}
use Rattle.std.proofs.Common.{subst, ◌∙◌, sym, filter, take, Result, Ok, Err, Option, Some, None}
use Rattle.std.proofs.Common.{inr, nat_eq, if◌then◌else◌}
use Rattle.std.specs.declared.cmp.Ordering.{Ordering}
use Rattle.std.specs.declared.cmp.Ordering.TheVariants.{Less, Equal, Greater}
use Rattle.std.specs.Ordering.{is_eq}
use Rattle.txn_types.specs.declared.id.Id.{Id}
use Rattle.txn_types.specs.declared.filter.Filter.{Filter}
use Rattle.txn_types.specs.declared.operation.OpErr.{OpErr}
use Rattle.txn_types.specs.declared.operation.What.{What}
use Rattle.txn_types.specs.declared.operation.What.TheVariants.{Duplicate}
use Rattle.txn_types.specs.declared.operation.InsertItem.{InsertItem}
use Rattle.txn_types.specs.declared.operation.UpdateItem.{UpdateItem}
use Rattle.txn_types.specs.declared.operation.DeleteItem.{DeleteItem}
use Rattle.bson_core.specs.Fields.{Document}
use Rattle.txn_semantics.specs.Effect.{DocumentRules, Done, Doing, nothing, after, each, through}
use Rattle.txn_semantics.specs.Effect.{matching, met_by, insert_new, insert_step, updated}
use Rattle.txn_semantics.specs.Effect.{update_step, delete_step, without}
use Rattle.txn_semantics.specs.Rows.{Row, at, laid_over, IsRising, holds_id}
use Rattle.txn_semantics.specs.Splits.{AreAt, AreAtOne, here, OneMeetsOne, OnDone, Along}
use Rattle.txn_semantics.specs.Splits.{IndicesRise, goes}
use Rattle.txn_semantics.proofs.Halves.{part, SplitsTo, IsBehind, StepSplits, AreAll}
use Rattle.txn_semantics.proofs.Parts.{AllAbove, rising_laid, at-laid}
use Rattle.txn_semantics.proofs.Through.{IsLocal, IsStep, each_splits, through_splits}
use Rattle.txn_types.specs.Order.{id_cmp, same_id}
use Rattle.txn_types.proofs.Orders.{id_exact}

-- filters
filters_case : {X : Type 0} (p q : X → Bool) (x : X) (xs : List X) (b c : Bool) → p x ≡ b → q x ≡ c
    → filter p (filter q xs) ≡ filter q (filter p xs) → filter p (cond c (x ∷ filter q xs)
    (filter q xs)) ≡ filter q (cond b (x ∷ filter p xs) (filter p xs))
filters_case p q x xs true true hp hq h = rw (hp, hq, h) refl
filters_case p q x xs true false hp hq h = rw (hq, h) refl
filters_case p q x xs false true hp hq h = rw (hp, h) refl
filters_case p q x xs false false hp hq h = h

pub filters : {X : Type 0} (p q : X → Bool) (xs : List X)
    → filter p (filter q xs) ≡ filter q (filter p xs)
filters p q [] = refl
filters p q (x ∷ xs) = filters_case p q x xs (p x) (q x) refl refl (filters p q xs)

above_filter_case : (id : Id) (row : Row) (rows : List Row) (b : Bool) → id_cmp id row.0 ≡ Less
    → AllAbove id rows → AllAbove id (cond b (row ∷ rows) rows)
above_filter_case id row rows true h more = (h, more)
above_filter_case id row rows false h more = more

above_filter : (q : Row → Bool) (id : Id) (rows : List Row) → AllAbove id rows
    → AllAbove id (filter q rows)
above_filter q id [] above = tt
above_filter q id (row ∷ rows) above =
    above_filter_case id row (filter q rows) (q row) above.0 (above_filter q id rows above.1)

rising_filter_case : (row : Row) (rows : List Row) (b : Bool) → AllAbove row.0 rows → IsRising rows
    → IsRising (cond b (row ∷ rows) rows)
rising_filter_case row rows true above more = (above, more)
rising_filter_case row rows false above more = more

pub rising_filter : (q : Row → Bool) (rows : List Row) → IsRising rows → IsRising (filter q rows)
rising_filter q [] r = tt
rising_filter q (row ∷ rows) r = rising_filter_case row (filter q rows) (q row) (above_filter q
    row.0 rows r.0) (rising_filter q rows r.1)

rising_one : (rows : List Row) → IsRising (take 1 rows)
rising_one [] = tt
rising_one (row ∷ rows) = (tt, tt)

rising_meets_case : (w : DocumentRules) (f : Filter) (many : Bool) (rows : List Row) → IsRising rows
    → IsRising (met_by w f many rows)
rising_meets_case w f true rows r = rising_filter (λ row. w.matches f row.1) rows r
rising_meets_case w f false rows r = rising_one (matching w f rows)

-- the first of rows that are all here, or all elsewhere
none_here : (p : Id → Bool) (rows : List Row) → AreAll p false rows → at p rows ≡ []
none_here p [] h = refl
none_here p (row ∷ rows) h = rw h.0 (none_here p rows h.1)

first_of_all : (p : Id → Bool) (b : Bool) (rows : List Row) → AreAll p b rows
    → at p (take 1 rows) ≡ take 1 (at p rows)
first_of_all p b [] h = refl
first_of_all p true (row ∷ rows) h = rw h.0 refl
first_of_all p false (row ∷ rows) h = rw (h.0, none_here p rows h.1) refl

all_at : (place : Id → ℕ) (s s' : ℕ) (rows : List Row) → AreAt place s rows
    → AreAll (here place s') (nat_eq s s') rows
all_at place s s' [] h = tt
all_at place s s' (row ∷ rows) h = (ap (λ n. nat_eq n s') h.0, all_at place s s' rows h.1)

meets_at : (w : DocumentRules) (f : Filter) (place : Id → ℕ) (s : ℕ) (many : Bool) (rows : List Row)
    → OneMeetsOne place many (matching w f rows)
    → at (here place s) (met_by w f many rows) ≡ met_by w f many (at (here place s) rows)
meets_at w f place s true rows one =
    filters (λ row. here place s row.0) (λ row. w.matches f row.1) rows
meets_at w f place s false rows one =
    let there : AreAtOne place (matching w f rows) = one refl in
    first_of_all (here place s) (nat_eq there.0 s) (matching w f rows)
    (all_at place there.0 s (matching w f rows) there.1)
    ∙ ap (take 1) (filters (λ row. here place s row.0) (λ row. w.matches f row.1) rows)

-- updates
updated_ok : (row : Row) (doc : Document) (b c : Bool) (p : Id → Bool) → p row.0 ≡ c
    → part p (record { met = row ∷ []; changed = if b then [] else ((row.0, doc) ∷ []) })
    ≡ cond c (record { met = row ∷ []; changed = if b then [] else ((row.0, doc) ∷ []) }) nothing
updated_ok row doc true true p h = rw h refl
updated_ok row doc false true p h = rw h refl
updated_ok row doc true false p h = rw h refl
updated_ok row doc false false p h = rw h refl

updated_case : (w : DocumentRules) (item : UpdateItem) (row : Row) (r : Result Document What)
    → IsLocal item.index row (elim r [
      | Err what ↦ Err (record { index = item.index; id = row.0; what = what })
      | Ok doc ↦
          Ok (record {
            met = row ∷ [];
            changed = if w.same row.1 doc then [] else ((row.0, doc) ∷ []);
          })
    ])
updated_case w item row (Ok doc) = λ p. updated_ok row doc (w.same row.1 doc) (p row.0) p refl
updated_case w item row (Err what) = (refl, refl)

updated_local : (w : DocumentRules) (item : UpdateItem) (row : Row)
    → IsLocal item.index row (updated w item row)
updated_local w item row = updated_case w item row (w.apply item.update row.1)

update_splits : (w : DocumentRules) (place : Id → ℕ) (s : ℕ) (item : UpdateItem) (rows : List Row)
    → IsRising rows → OneMeetsOne place item.many (matching w item.filter rows)
    → StepSplits (update_step w) (here place s) (λ _. true) item rows
update_splits w place s item rows rising one = record {
  going = λ _. subst (λ xs. SplitsTo (here place s) (update_step w item rows)
      (each (updated w item) xs)) (meets_at w item.filter place s item.many rows one)
      (each_splits (here place s) item.index (updated w item) (updated_local w item) (met_by w
      item.filter item.many rows) (rising_meets_case w item.filter item.many rows rising));
  staying = λ h. let wrong : true ≡ false = h in cc;
}

abbrev IsIndex : ℕ → Doing → Type 0
IsIndex n (Ok d) = Unit {0}
IsIndex n (Err e) = e.index ≡ n

index_after : (n : ℕ) (row : Row) (r rest : Doing) → IsLocal n row r → IsIndex n rest
    → IsIndex n (after r (λ _. rest))
index_after n row (Ok d) (Ok m) local h = tt
index_after n row (Ok d) (Err e) local h = h
index_after n row (Err e) rest local h = local.0

index_each : (n : ℕ) (act : Row → Doing) → ((row : Row) → IsLocal n row (act row))
    → (rows : List Row) → IsIndex n (each act rows)
index_each n act local [] = tt
index_each n act local (row ∷ rows) =
    index_after n row (act row) (each act rows) (local row) (index_each n act local rows)

index_of : (n : ℕ) (r : Doing) (e : OpErr) → r ≡ Err e → IsIndex n r → e.index ≡ n
index_of n r e h i = subst (IsIndex n) h i

behind_of : (n m : ℕ) (r : Doing) → n < m → IsIndex m r → IsBehind n r
behind_of n m (Ok d) h i = tt
behind_of n m (Err e) h i = subst (λ k. n < k) (sym i) h

pub update_is_step : (w : DocumentRules) → IsStep (update_step w) laid_over (λ item. item.index)
update_is_step w = record {
  of = λ n item rows h. behind_of n item.index (update_step w item rows) h (index_each item.index
      (updated w item) (updated_local w item) (met_by w item.filter item.many rows));
  own = λ item rows e h. index_of item.index (update_step w item rows) e h (index_each item.index
      (updated w item) (updated_local w item) (met_by w item.filter item.many rows));
  rising = λ rows changed r. rising_laid rows changed r;
  splits = λ p rows changed r. at-laid p rows changed r;
  idle = λ rows. refl;
}

filter_true : {X : Type 0} (xs : List X) → filter (λ _. true) xs ≡ xs
filter_true [] = refl
filter_true (x ∷ xs) = ap (λ ys. x ∷ ys) (filter_true xs)

pub updates_split : (w : DocumentRules) (place : Id → ℕ) (s : ℕ) (items : List UpdateItem)
    (rows : List Row) → IsRising rows → IndicesRise (λ item. item.index) items
    → Along (λ item rows. OneMeetsOne place item.many (matching w item.filter rows)) (update_step w)
    laid_over items rows
    → SplitsTo (here place s) (through (update_step w) laid_over items rows)
    (through (update_step w) laid_over items (at (here place s) rows))
updates_split w place s items rows rising rise along =
    subst (λ xs. SplitsTo (here place s) (through (update_step w) laid_over items rows)
    (through (update_step w) laid_over xs (at (here place s) rows))) (filter_true items)
    (through_splits (λ item rows. OneMeetsOne place item.many (matching w item.filter rows))
    (update_step w) laid_over (λ item. item.index) (update_is_step w) (here place s) (λ _. true)
    (update_splits w place s) items rows rising rise along)

-- deletes
equal_of : (o : Ordering) → is_eq o ≡ true → o ≡ Equal
equal_of Less h = cc
equal_of Equal h = refl
equal_of Greater h = cc

holds_case : (p : Id → Bool) (id : Id) (row : Row) (gone : List Row) (b c : Bool) → p row.0 ≡ b
    → same_id id row.0 ≡ c → p id ≡ true → holds_id id (at p gone) ≡ holds_id id gone
    → holds_id id (cond b (row ∷ at p gone) (at p gone)) ≡ holds_id id (row ∷ gone)
holds_case p id row gone true c hb hc h more = rw more refl
holds_case p id row gone false true hb hc h more = let wrong : true ≡ false = sym h
    ∙ ap p (id_exact id row.0 (equal_of (id_cmp id row.0) hc)) ∙ hb in cc
holds_case p id row gone false false hb hc h more = rw (hc, more) refl

pub holds_at : (p : Id → Bool) (id : Id) (rows : List Row) → p id ≡ true
    → holds_id id (at p rows) ≡ holds_id id rows
holds_at p id [] h = refl
holds_at p id (row ∷ rows) h =
    holds_case p id row rows (p row.0) (same_id id row.0) refl refl h (holds_at p id rows h)

kept_here : (p : Id → Bool) (row : Row) (rows : List Row) (k : Bool) → p row.0 ≡ true
    → at p (cond k (row ∷ rows) rows) ≡ cond k (row ∷ at p rows) (at p rows)
kept_here p row rows true h = rw h refl
kept_here p row rows false h = refl

kept_elsewhere : (p : Id → Bool) (row : Row) (rows : List Row) (k : Bool) → p row.0 ≡ false
    → at p (cond k (row ∷ rows) rows) ≡ at p rows
kept_elsewhere p row rows true h = rw h refl
kept_elsewhere p row rows false h = refl

without_case : (p : Id → Bool) (row : Row) (rows gone : List Row) (b : Bool) → p row.0 ≡ b
    → at p (without rows gone) ≡ without (at p rows) (at p gone)
    → at p (cond (not (holds_id row.0 gone)) (row ∷ without rows gone) (without rows gone))
    ≡ without (cond b (row ∷ at p rows) (at p rows)) (at p gone)
without_case p row rows gone true h more =
    kept_here p row (without rows gone) (not (holds_id row.0 gone)) h
    ∙ ap (λ xs. cond (not (holds_id row.0 gone)) (row ∷ xs) xs) more
    ∙ ap (λ k. cond (not k) (row ∷ without (at p rows) (at p gone))
    (without (at p rows) (at p gone))) (sym (holds_at p row.0 gone h))
without_case p row rows gone false h more =
    kept_elsewhere p row (without rows gone) (not (holds_id row.0 gone)) h ∙ more

pub at-without : (p : Id → Bool) (rows gone : List Row)
    → at p (without rows gone) ≡ without (at p rows) (at p gone)
at-without p [] gone = refl
at-without p (row ∷ rows) gone =
    without_case p row rows gone (p row.0) refl (at-without p rows gone)

pub delete_is_step : (w : DocumentRules) → IsStep (delete_step w) without (λ item. item.index)
delete_is_step w = record {
  of = λ n item rows h. tt;
  own = λ item rows e h. cc;
  rising = λ rows changed r. rising_filter (λ row. not (holds_id row.0 changed)) rows r;
  splits = λ p rows changed r. at-without p rows changed;
  idle = λ rows. filter_true rows;
}

delete_splits : (w : DocumentRules) (place : Id → ℕ) (s : ℕ) (item : DeleteItem) (rows : List Row)
    → IsRising rows → OneMeetsOne place item.many (matching w item.filter rows)
    → StepSplits (delete_step w) (here place s) (λ _. true) item rows
delete_splits w place s item rows rising one = record {
  going = λ _. ap (λ xs. Ok (record { met = xs; changed = xs }))
      (sym (meets_at w item.filter place s item.many rows one));
  staying = λ h. let wrong : true ≡ false = h in cc;
}

pub deletes_split : (w : DocumentRules) (place : Id → ℕ) (s : ℕ) (items : List DeleteItem)
    (rows : List Row) → IsRising rows → IndicesRise (λ item. item.index) items
    → Along (λ item rows. OneMeetsOne place item.many (matching w item.filter rows)) (delete_step w)
    without items rows
    → SplitsTo (here place s) (through (delete_step w) without items rows)
    (through (delete_step w) without items (at (here place s) rows))
deletes_split w place s items rows rising rise along =
    subst (λ xs. SplitsTo (here place s) (through (delete_step w) without items rows)
    (through (delete_step w) without xs (at (here place s) rows))) (filter_true items)
    (through_splits (λ item rows. OneMeetsOne place item.many (matching w item.filter rows))
    (delete_step w) without (λ item. item.index) (delete_is_step w) (here place s) (λ _. true)
    (delete_splits w place s) items rows rising rise along)

-- inserts
new_going : (p : Id → Bool) (item : InsertItem) (rows : List Row) (id : Id) (b : Bool) → p id ≡ true
    → SplitsTo p (if b then Err (record { index = item.index; id = id; what = Duplicate })
    else Ok (record { met = (id, item.doc) ∷ []; changed = (id, item.doc) ∷ [] }))
    (if b then Err (record { index = item.index; id = id; what = Duplicate })
    else Ok (record { met = (id, item.doc) ∷ []; changed = (id, item.doc) ∷ [] }))
new_going p item rows id true h = ((λ _. refl), inr (refl, inr refl))
new_going p item rows id false h = rw h refl

new_staying : (p : Id → Bool) (item : InsertItem) (id : Id) (b : Bool) → p id ≡ false
    → SplitsTo p (if b then Err (record { index = item.index; id = id; what = Duplicate })
    else Ok (record { met = (id, item.doc) ∷ []; changed = (id, item.doc) ∷ [] })) (Ok nothing)
new_staying p item id true h = ((λ there. let wrong : true ≡ false = sym there ∙ h in cc), tt)
new_staying p item id false h = rw h refl

abbrev insert_by : InsertItem → List Row → Option Id → Doing
insert_by item rows o = elim o [ None ↦ Ok nothing | Some id ↦ insert_new item rows id ]

insert_going : (p : Id → Bool) (item : InsertItem) (rows : List Row) (o : Option Id)
    → (elim o [ None ↦ false | Some id ↦ p id ]) ≡ true
    → SplitsTo p (insert_by item rows o) (insert_by item (at p rows) o)
insert_going p item rows None h = refl
insert_going p item rows (Some id) h =
    subst (λ b. SplitsTo p (insert_new item rows id)
    (if b then Err (record { index = item.index; id = id; what = Duplicate })
    else Ok (record { met = (id, item.doc) ∷ []; changed = (id, item.doc) ∷ [] })))
    (sym (holds_at p id rows h))
    (new_going p item rows id (holds_id id rows) h)

insert_staying : (p : Id → Bool) (item : InsertItem) (rows : List Row) (o : Option Id)
    → (elim o [ None ↦ false | Some id ↦ p id ]) ≡ false
    → SplitsTo p (insert_by item rows o) (Ok nothing)
insert_staying p item rows None h = refl
insert_staying p item rows (Some id) h = new_staying p item id (holds_id id rows) h

new_index : (item : InsertItem) (id : Id) (b : Bool)
    → IsIndex item.index (if b then Err (record { index = item.index; id = id; what = Duplicate })
    else Ok (record { met = (id, item.doc) ∷ []; changed = (id, item.doc) ∷ [] }))
new_index item id true = refl
new_index item id false = tt

insert_index : (item : InsertItem) (rows : List Row) (o : Option Id)
    → IsIndex item.index (insert_by item rows o)
insert_index item rows None = tt
insert_index item rows (Some id) = new_index item id (holds_id id rows)

pub insert_is_step : (w : DocumentRules) → IsStep (insert_step w) laid_over (λ item. item.index)
insert_is_step w = record {
  of = λ n item rows h. behind_of n item.index (insert_step w item rows) h (insert_index item rows
      (w.id_in item.doc));
  own = λ item rows e h. index_of item.index (insert_step w item rows) e h (insert_index item rows
      (w.id_in item.doc));
  rising = λ rows changed r. rising_laid rows changed r;
  splits = λ p rows changed r. at-laid p rows changed r;
  idle = λ rows. refl;
}

on_any : (r : Doing) (P : Done → Type 0) → ((d : Done) → P d) → OnDone r P
on_any (Ok d) P f = f d
on_any (Err e) P f = tt

along_any : {I : Type 0} (step : I → List Row → Doing) (left : List Row → List Row
    → List Row) (items : List I) (rows : List Row) → Along (λ _ _. Unit {0}) step left items rows
along_any step left [] rows = tt
along_any step left (item ∷ items) rows = (
  tt,
  on_any (step item rows) (λ d. Along (λ _ _. Unit {0}) step left items (left rows d.changed))
      (λ d. along_any step left items (left rows d.changed)),
)

pub inserts_split : (w : DocumentRules) (place : Id → ℕ) (s : ℕ) (items : List InsertItem)
    (rows : List Row) → IsRising rows → IndicesRise (λ item. item.index) items
    → SplitsTo (here place s) (through (insert_step w) laid_over items rows) (through
    (insert_step w) laid_over (filter (goes w (here place s)) items) (at (here place s) rows))
inserts_split w place s items rows rising rise =
    through_splits (λ _ _. Unit {0}) (insert_step w) laid_over (λ item. item.index)
    (insert_is_step w) (here place s) (goes w (here place s))
    (λ item rows r _. record {
      going = insert_going (here place s) item rows (w.id_in item.doc);
      staying = insert_staying (here place s) item rows (w.id_in item.doc);
    })
    items rows rising rise (along_any (insert_step w) laid_over items rows)
