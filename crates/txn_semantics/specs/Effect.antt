-- What the items of a statement do to rows, one after the other, each over the rows that those
-- before it left.
-- Two documents {_id: 1, n: 1} and {_id: 2, n: 2}, and an update of two items: the first adds 1 to
-- n where n is 1, the second sets n to 9 wherever it is 2. The first meets {_id: 1} and leaves
-- {_id: 1, n: 2}; so the second meets both, and leaves n at 9 in both. Three rows were met, and
-- three were changed. Had the first item met nothing, the second would have met {_id: 2} alone.
use Rattle.std.specs.Prelude.{◌≡◌, ℕ, Bool, not, List, [], ◌∷◌, ◌++◌, filter, take, Option, Some}
use Rattle.std.specs.Prelude.{None, Result, Ok, Err, if◌then◌else◌}
use Rattle.bson_core.specs.Fields.{Document}
use Rattle.txn_types.specs.declared.id.Id.{Id}
use Rattle.txn_types.specs.declared.filter.Filter.{Filter}
use Rattle.txn_types.specs.declared.update.Update.{Update}
use Rattle.txn_types.specs.declared.operation.InsertItem.{InsertItem}
use Rattle.txn_types.specs.declared.operation.UpdateItem.{UpdateItem}
use Rattle.txn_types.specs.declared.operation.DeleteItem.{DeleteItem}
use Rattle.txn_types.specs.declared.operation.OpErr.{OpErr}
use Rattle.txn_types.specs.declared.operation.What.{What}
use Rattle.txn_types.specs.declared.operation.What.TheVariants.{Duplicate}
use Rattle.txn_semantics.specs.Rows.{Row, holds_id}

-- what is known of documents and decides what a statement does: which of them a filter matches,
-- what an update makes of one, whether two have the same bytes, how many bytes one has, and its id
pub record DocumentRules : Type 0 where
  pub matches : Filter → Document → Bool
  pub apply : Update → Document → Result Document What
  pub same : Document → Document → Bool
  pub size : Document → ℕ
  pub id_in : Document → Option Id

-- each document has its row's id
abbrev pub AreKnown : DocumentRules → List Row → Type 0
AreKnown w [] = Unit {0}
AreKnown w (row ∷ rows) = (w.id_in row.1 ≡ Some row.0) × AreKnown w rows

-- the rows that items met, and those that they left with new content or took away, in the order of
-- the items
pub record Done : Type 0 where
  pub met : List Row
  pub changed : List Row

abbrev pub nothing : Done
nothing = record { met = []; changed = [] }

abbrev pub both : Done → Done → Done
both a b = record { met = a.met ++ b.met; changed = a.changed ++ b.changed }

-- what was done, or the refusal
abbrev pub Doing : Type 0
Doing = Result Done OpErr

abbrev pub with_done : Done → Doing → Doing
with_done done (Ok more) = Ok (both done more)
with_done done (Err e) = Err e

abbrev pub after : Doing → (Done → Doing) → Doing
after (Ok done) next = with_done done (next done)
after (Err e) next = Err e

-- row by row, up to the first refusal
abbrev pub each : (Row → Doing) → List Row → Doing
each act [] = Ok nothing
each act (row ∷ rows) = after (act row) (λ _. each act rows)

-- item by item, each over the rows that those before it left, up to the first refusal
abbrev pub through : {I : Type 0} → (I → List Row → Doing) → (List Row → List Row → List Row)
    → List I → List Row → Doing
through step left [] rows = Ok nothing
through step left (item ∷ items) rows =
    after (step item rows) (λ done. through step left items (left rows done.changed))

-- a document whose id is there is refused
abbrev pub insert_new : InsertItem → List Row → Id → Doing
insert_new item rows id =
    if holds_id id rows
    then Err (record { index = item.index; id = id; what = Duplicate })
    else Ok (record { met = (id, item.doc) ∷ []; changed = (id, item.doc) ∷ [] })

-- an item is a document with an id; one without, which no insert holds, does nothing
abbrev pub insert_step : DocumentRules → InsertItem → List Row → Doing
insert_step w item rows =
    elim (w.id_in item.doc) [ None ↦ Ok nothing | Some id ↦ insert_new item rows id ]

-- the rows that an item meets: all that match, or the first of them
abbrev pub matching : DocumentRules → Filter → List Row → List Row
matching w wanted rows = filter (λ row. w.matches wanted row.1) rows

abbrev pub met_by : DocumentRules → Filter → Bool → List Row → List Row
met_by w wanted many rows = if many then matching w wanted rows else take 1 (matching w wanted rows)

-- a row that is met gets its new document; it is changed where that has other bytes
abbrev pub updated : DocumentRules → UpdateItem → Row → Doing
updated w item row =
    elim (w.apply item.update row.1) [
      | Err what ↦ Err (record { index = item.index; id = row.0; what = what })
      | Ok doc ↦ Ok (record {
        met = row ∷ [];
        changed = if w.same row.1 doc then [] else ((row.0, doc) ∷ []);
      })
    ]

abbrev pub update_step : DocumentRules → UpdateItem → List Row → Doing
update_step w item rows = each (updated w item) (met_by w item.filter item.many rows)

-- a row that is met is taken away
abbrev pub delete_step : DocumentRules → DeleteItem → List Row → Doing
delete_step w item rows = Ok (record {
  met = met_by w item.filter item.many rows;
  changed = met_by w item.filter item.many rows;
})

-- the rows without those
abbrev pub without : List Row → List Row → List Row
without rows gone = filter (λ row. not (holds_id row.0 gone)) rows
