-- An insert of one document.
use Rattle.std.proofs.Common.{◌≡◌, ℕ, Bool, true, false, cond, List, [], ◌∷◌, Option, Some, None}
use Rattle.std.proofs.Common.{Ok, Err, ap, ◌∙◌}
use Rattle.txn_types.specs.Ids.{id_in}
use Rattle.txn_types.specs.declared.id.Id.{Id}
use Rattle.txn_types.specs.declared.operation.InsertItem.{InsertItem}
use Rattle.txn_types.specs.declared.operation.Op.TheVariants.{Insert}
use Rattle.txn_types.specs.declared.operation.OpReply.TheVariants.{Count}
use Rattle.txn_types.specs.declared.operation.What.TheVariants.{Duplicate}
use Rattle.txn_types.specs.declared.write.Write.TheVariants.{Put}
use Rattle.txn_semantics.specs.Rows.{Row, holds_id}
use Rattle.txn_semantics.specs.Effect.{Doing, nothing, after, insert_new}
use Rattle.txn_semantics.specs.Meaning.{Meaning, eval, meaning_of, count_met, put_of}

-- the meaning of what the one item does
meaning_one : List ℕ → Doing → Meaning
meaning_one ns doing = meaning_of count_met (put_of ns) (after doing (λ _. Ok nothing))

-- the one item, by whether its id is there
new_by : InsertItem → Id → Bool → Doing
new_by item id there = cond there (Err (record { index = item.index; id = id; what = Duplicate }))
    (Ok (record { met = (id, item.doc) ∷ []; changed = (id, item.doc) ∷ [] }))

by_id : (ns : List ℕ) (item : InsertItem) (id : Id) (rows : List Row) → id_in item.doc ≡ Some id
    → eval (Insert ns (item ∷ [])) rows ≡ meaning_one ns (insert_new item rows id)
unfolding meaning_one
by_id ns item id rows has = ap (λ (o : Option Id).
    meaning_one ns (elim o [ None ↦ Ok nothing | Some i ↦ insert_new item rows i ])) has

pub insert_refused : (ns : List ℕ) (item : InsertItem) (id : Id) (rows : List Row)
    → id_in item.doc ≡ Some id → holds_id id rows ≡ true → eval (Insert ns (item ∷ [])) rows
    ≡ Err (record { index = item.index; id = id; what = Duplicate })
unfolding meaning_one new_by
insert_refused ns item id rows has there = by_id ns item id rows has
    ∙ ap (λ b. meaning_one ns (new_by item id b)) there

pub insert_done : (ns : List ℕ) (item : InsertItem) (id : Id) (rows : List Row)
    → id_in item.doc ≡ Some id → holds_id id rows ≡ false
    → eval (Insert ns (item ∷ [])) rows ≡ Ok (Count 1 0, Put ns id item.doc ∷ [])
unfolding meaning_one new_by
insert_done ns item id rows has free = by_id ns item id rows has
    ∙ ap (λ b. meaning_one ns (new_by item id b)) free
