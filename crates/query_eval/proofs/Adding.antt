-- What an insert adds, kept by id beside the rows.
use Rattle.std.proofs.Common.{◌≡◌, ℕ, suc, ◌+◌, ◌<◌, ◌≤◌, Bool, true, false, cond, ◌||◌, List, []}
use Rattle.std.proofs.Common.{◌∷◌, ◌++◌, Option, Some, None, is_some, Ok, Err, length, map, drop}
use Rattle.std.proofs.Common.{get_or, refl, ap, ap₂, subst, sym, ◌∙◌, arith, if◌then◌else◌}
use Rattle.std.proofs.Common.{length-append}
use Rattle.std.proofs.lemmas.List.{drop_all}
use Rattle.std.proofs.lemmas.List.Folds.{list_any-append}
use Rattle.std.proofs.Math.Seq.{drop-cons}
use Rattle.std.specs.BTreeMap.{is_at, insert_entry}
use Rattle.std.specs.Map.{lookup}
use Rattle.std.specs.Ordering.{match_ordering}
use Rattle.std.specs.declared.cmp.Ordering.{Ordering}
use Rattle.std.specs.declared.cmp.Ordering.TheVariants.{Less, Equal, Greater}
use Rattle.bson_core.specs.Fields.{Document}
use Rattle.txn_types.specs.Ids.{id_in}
use Rattle.txn_types.specs.Order.{id_cmp, same_id}
use Rattle.txn_types.specs.declared.id.Id.{Id}
use Rattle.txn_types.specs.declared.operation.InsertItem.{InsertItem}
use Rattle.txn_types.specs.declared.operation.OpReply.{OpReply}
use Rattle.txn_types.specs.declared.operation.OpReply.TheVariants.{Count}
use Rattle.txn_types.specs.declared.operation.What.TheVariants.{Duplicate}
use Rattle.txn_types.specs.declared.write.Write.{Write}
use Rattle.txn_types.proofs.Orders.{id_exact}
use Rattle.txn_semantics.specs.Effect.{AreKnown, Done, Doing, nothing, both, with_done, after}
use Rattle.txn_semantics.specs.Effect.{through, insert_new, insert_step}
use Rattle.txn_semantics.specs.Meaning.{capped, count_met, meaning_of, put_of, document_rules}
use Rattle.txn_semantics.specs.Rows.{Row, put_row, laid_over, holds_id}
use Rattle.txn_semantics.proofs.Routing.{known_laid}
use Rattle.query_eval.specs.Acts.{Inserted, IsRefusal, Refuses}
use Rattle.query_eval.specs.declared.error.EvalErr.{EvalErr}
use Rattle.query_eval.specs.declared.error.EvalErr.TheVariants.{Op, Memory}
use Rattle.query_eval.proofs.Acting.{with_twice, with_nothing, both_nothing, laid_append}

-- what is inserted into a tree by id is put
inserted_case : {A : Type 0} (id : Id) (a : A) (row : Id × A) (rows rest : List (Id × A))
    (o : Ordering) → id_cmp id row.0 ≡ o → rest ≡ put_row id a rows
    → match_ordering o ((id, a) ∷ row ∷ rows) ((row.0, a) ∷ rows) (row ∷ rest) ≡ (elim o [
      | Less ↦ (id, a) ∷ row ∷ rows
      | Equal ↦ (id, a) ∷ rows
      | Greater ↦ row ∷ put_row id a rows
    ])
inserted_case id a row rows rest Less is h = refl
inserted_case id a row rows rest Equal is h =
    ap (λ (i : Id). (i, a) ∷ rows) (sym (id_exact id row.0 is))
inserted_case {A} id a row rows rest Greater is h = ap (λ (xs : List (Id × A)). row ∷ xs) h

pub inserted : {A : Type 0} (id : Id) (a : A) (rows : List (Id × A))
    → insert_entry id_cmp rows id a ≡ put_row id a rows
inserted id a [] = refl
inserted id a (row ∷ rows) =
    inserted_case id a row rows _ (id_cmp id row.0) refl (inserted id a rows)

-- an id is among rows that were laid over others if it is among the ones or the others
or_same : (a b : Bool) → (a || b) ≡ (a || (a || b))
or_same true b = refl
or_same false b = refl

or_swap : (a b c : Bool) → (a || (b || c)) ≡ (b || (a || c))
or_swap true true c = refl
or_swap true false c = refl
or_swap false b c = refl

or_move : (a b c : Bool) → ((a || b) || c) ≡ (b || (a || c))
or_move true true c = refl
or_move true false c = refl
or_move false b c = refl

or_false : (b : Bool) → b ≡ (b || false)
or_false true = refl
or_false false = refl

holds_put_case : (id key : Id) (doc : Document) (row : Row) (rows : List Row) (o : Ordering)
    → id_cmp key row.0 ≡ o
    → holds_id id (put_row key doc rows) ≡ (same_id id key || holds_id id rows)
    → holds_id id (elim o [
      | Less ↦ (key, doc) ∷ row ∷ rows
      | Equal ↦ (key, doc) ∷ rows
      | Greater ↦ row ∷ put_row key doc rows
    ]) ≡ (same_id id key || holds_id id (row ∷ rows))
holds_put_case id key doc row rows Less is more = refl
holds_put_case id key doc row rows Equal is more =
    or_same (same_id id key) (holds_id id rows)
    ∙ ap (λ b. same_id id key || (b || holds_id id rows)) (ap (same_id id) (id_exact key row.0 is))
holds_put_case id key doc row rows Greater is more = ap (λ b. same_id id row.0 || b) more
    ∙ or_swap (same_id id row.0) (same_id id key) (holds_id id rows)

holds_put : (id key : Id) (doc : Document) (rows : List Row)
    → holds_id id (put_row key doc rows) ≡ (same_id id key || holds_id id rows)
holds_put id key doc [] = refl
holds_put id key doc (row ∷ rows) =
    holds_put_case id key doc row rows (id_cmp key row.0) refl (holds_put id key doc rows)

holds_laid : (id : Id) (rows others : List Row)
    → holds_id id (laid_over rows others) ≡ (holds_id id rows || holds_id id others)
holds_laid id rows [] = or_false (holds_id id rows)
holds_laid id rows (other ∷ others) = holds_laid id (put_row other.0 other.1 rows) others
    ∙ ap (λ b. b || holds_id id others) (holds_put id other.0 other.1 rows)
    ∙ or_move (same_id id other.0) (holds_id id rows) (holds_id id others)

holds_both : (id : Id) (rows others : List Row)
    → holds_id id (rows ++ others) ≡ (holds_id id rows || holds_id id others)
holds_both id rows others = list_any-append (λ (row : Row). same_id id row.0) rows others

-- what a tree holds
found_case : (doc : Document) (o : Option Document) (b c : Bool) → is_some o ≡ c
    → is_some (cond b (Some doc) o) ≡ (b || c)
found_case doc o true c h = refl
found_case doc o false c h = h

holds_found : (id : Id) (rows : List Row)
    → is_some (lookup (is_at (id_cmp id)) rows) ≡ holds_id id rows
holds_found id [] = refl
holds_found id (row ∷ rows) =
    found_case row.1 (lookup (is_at (id_cmp id)) rows) (same_id id row.0) (holds_id id rows)
    (holds_found id rows)

pub there_first : (id : Id) (rows added : List Row) → holds_id id rows ≡ true
    → holds_id id (rows ++ added) ≡ true
there_first id rows added h = holds_both id rows added ∙ ap (λ b. b || holds_id id added) h

or_true : (b : Bool) → (b || true) ≡ true
or_true true = refl
or_true false = refl

pub there_later : (id : Id) (rows added : List Row)
    → is_some (lookup (is_at (id_cmp id)) added) ≡ true → holds_id id (rows ++ added) ≡ true
there_later id rows added h = holds_both id rows added
    ∙ ap (λ b. holds_id id rows || b) (sym (holds_found id added) ∙ h)
    ∙ or_true (holds_id id rows)

pub there_by : (id : Id) (rows added : List Row) (a b : Bool) → a ≡ holds_id id rows
    → b ≡ is_some (lookup (is_at (id_cmp id)) added) → holds_id id (rows ++ added) ≡ (a || b)
there_by id rows added a b h g =
    holds_both id rows added ∙ sym (ap₂ (λ x y. x || y) h (g ∙ holds_found id added))

-- an item by the id of its document
insert_by : InsertItem → List Row → Option Id → Doing
insert_by item rows o = elim o [ None ↦ Ok nothing | Some id ↦ insert_new item rows id ]

step_by : (item : InsertItem) (rows : List Row) (o : Option Id) → id_in item.doc ≡ o
    → insert_step document_rules item rows ≡ insert_by item rows o
unfolding insert_by
step_by item rows o has = ap (insert_by item rows) has

new_by : InsertItem → Id → Bool → Doing
new_by item id b = if b
    then Err (record { index = item.index; id = id; what = Duplicate })
    else Ok (record { met = (id, item.doc) ∷ []; changed = (id, item.doc) ∷ [] })

id_by : (item : InsertItem) (rows : List Row) (id : Id) (b : Bool) → id_in item.doc ≡ Some id
    → holds_id id rows ≡ b → insert_step document_rules item rows ≡ new_by item id b
unfolding insert_by new_by
id_by item rows id b has there = ap (insert_by item rows) has ∙ ap (new_by item id) there

pub added_none : (item : InsertItem) (rows added : List Row) → id_in item.doc ≡ None
    → Inserted item rows added added 0
unfolding insert_by
added_none item rows added none = record {
  done = nothing;
  does = step_by item (rows ++ added) None none;
  after_is = refl;
  known = tt;
  count_is = omega arith;
}

pub added_one : (item : InsertItem) (rows added after : List Row) (id : Id) (doc : Document)
    → id_in item.doc ≡ Some id → holds_id id (rows ++ added) ≡ false
    → after ≡ put_row id doc added → doc ≡ item.doc → Inserted item rows added after 1
unfolding new_by
added_one item rows added after id doc has free is same = record {
  done = record { met = (id, item.doc) ∷ []; changed = (id, item.doc) ∷ [] };
  does = id_by item (rows ++ added) id false has free;
  after_is = is ∙ ap (λ (d : Document). put_row id d added) same;
  known = (has, tt);
  count_is = omega arith;
}

pub added_twice : (item : InsertItem) (rows : List Row) (id : Id) (e : EvalErr)
    → id_in item.doc ≡ Some id → holds_id id rows ≡ true
    → IsRefusal e (record { index = item.index; id = id; what = Duplicate })
    → Refuses e (insert_step document_rules item rows)
unfolding new_by
added_twice item rows id (Op e) has there is = id_by item rows id true has there ∙ ap Err (sym is)
added_twice item rows id Memory has there is = tt

-- an item sees of rows which ids are there
same_case : (item : InsertItem) (xs ys : List Row) (o : Option Id)
    → ((id : Id) → holds_id id xs ≡ holds_id id ys) → insert_by item xs o ≡ insert_by item ys o
unfolding insert_by
same_case item xs ys None h = refl
same_case item xs ys (Some id) h =
    ap (λ b. if b then Err (record { index = item.index; id = id; what = Duplicate })
    else Ok (record { met = (id, item.doc) ∷ []; changed = (id, item.doc) ∷ [] })) (h id)

step_same : (item : InsertItem) (xs ys : List Row)
    → ((id : Id) → holds_id id xs ≡ holds_id id ys)
    → insert_step document_rules item xs ≡ insert_step document_rules item ys
step_same item xs ys h = step_by item xs (id_in item.doc) refl
    ∙ same_case item xs ys (id_in item.doc) h ∙ sym (step_by item ys (id_in item.doc) refl)

beside : (id : Id) (rows added changed : List Row) → added ≡ laid_over [] changed
    → holds_id id (laid_over rows changed) ≡ holds_id id (rows ++ added)
beside id rows added changed is = holds_laid id rows changed
    ∙ ap (λ b. holds_id id rows || b) (sym (ap (holds_id id) is ∙ holds_laid id [] changed))
    ∙ sym (holds_both id rows added)

-- the items so far, and those that are left
pub record AddedSoFar (all rest : List InsertItem) (rows added : List Row) (n : ℕ) : Type 0 where
  pub so_far : Done
  pub doing : with_done so_far (through (insert_step document_rules) laid_over rest
      (laid_over rows so_far.changed)) ≡ through (insert_step document_rules) laid_over all rows
  pub added_is : added ≡ laid_over [] so_far.changed
  pub known : AreKnown document_rules added
  pub n_is : n ≡ capped (length so_far.met)

pub added_start : (all : List InsertItem) (rows added : List Row) → added ≡ []
    → AddedSoFar all all rows added 0
added_start all rows added is = record {
  so_far = nothing;
  doing = with_nothing (through (insert_step document_rules) laid_over all rows);
  added_is = is;
  known = subst (AreKnown document_rules) (sym is) tt;
  n_is = omega arith;
}

abbrev rest_of : List InsertItem → List Row → Doing
rest_of items rows = through (insert_step document_rules) laid_over items rows

added_more : (all : List InsertItem) (item : InsertItem) (rest : List InsertItem)
    (rows added next : List Row) (n count : ℕ) → AddedSoFar all (item ∷ rest) rows added n
    → Inserted item rows added next count
    → AddedSoFar all rest rows next (capped (n + count))
added_more all item rest rows added next n count s a =
    let before : List Row = laid_over rows s.so_far.changed in
    let does : insert_step document_rules item before ≡ Ok a.done = step_same item before
    (rows ++ added) (λ id. beside id rows added s.so_far.changed s.added_is) ∙ a.does in
    record {
      so_far = both s.so_far a.done;
      doing = sym (with_twice s.so_far a.done
          (rest_of rest (laid_over rows (s.so_far.changed ++ a.done.changed))))
          ∙ ap (λ xs. with_done s.so_far (with_done a.done (rest_of rest xs)))
          (laid_append rows s.so_far.changed a.done.changed)
          ∙ ap (λ r. with_done s.so_far (after r (λ d. rest_of rest (laid_over before d.changed))))
          (sym does) ∙ s.doing;
      added_is = a.after_is ∙ ap (λ xs. laid_over xs a.done.changed) s.added_is
          ∙ sym (laid_append [] s.so_far.changed a.done.changed);
      known = subst (AreKnown document_rules) (sym a.after_is)
          (known_laid document_rules added a.done.changed s.known a.known);
      n_is = omega (arith, s.n_is, a.count_is, length-append s.so_far.met a.done.met);
    }

item_at : (all : List InsertItem) (i : ℕ) (item : InsertItem) → item ≡ get_or all i item
    → i < length all → drop i all ≡ item ∷ drop (i + 1) all
item_at all i item is lt =
    let next_place : suc i ≡ i + 1 = omega arith in
    drop-cons all i item lt ∙ ap (λ (x : InsertItem). x ∷ drop (suc i) all) (sym is)
    ∙ ap (λ k. item ∷ drop k all) next_place

pub added_turn : (all : List InsertItem) (i : ℕ) (item : InsertItem) (rows added next : List Row)
    (n total count : ℕ) → item ≡ get_or all i item → i < length all
    → AddedSoFar all (drop i all) rows added n → Inserted item rows added next count
    → total ≡ capped (n + count) → AddedSoFar all (drop (i + 1) all) rows next total
added_turn all i item rows added next n total count is lt s a totals =
    subst (λ k. AddedSoFar all (drop (i + 1) all) rows next k) (sym totals)
    (added_more all item (drop (i + 1) all) rows added next n count
    (subst (λ xs. AddedSoFar all xs rows added n) (item_at all i item is lt) s) a)

pub added_refused : (all : List InsertItem) (i : ℕ) (item : InsertItem) (rows added : List Row)
    (n : ℕ) (ns : List ℕ) (e : EvalErr) → item ≡ get_or all i item → i < length all
    → AddedSoFar all (drop i all) rows added n
    → Refuses e (insert_step document_rules item (rows ++ added))
    → Refuses e (meaning_of count_met (put_of ns) (rest_of all rows))
added_refused all i item rows added n ns (Op e) is lt s r =
    let before : List Row = laid_over rows s.so_far.changed in
    let does : insert_step document_rules item before ≡ Err e = step_same item before
    (rows ++ added) (λ id. beside id rows added s.so_far.changed s.added_is) ∙ r in
    ap (meaning_of count_met (put_of ns)) (sym s.doing
    ∙ ap (λ xs. with_done s.so_far (rest_of xs before)) (item_at all i item is lt)
    ∙ ap (λ d. with_done s.so_far (after d (λ x. rest_of (drop (i + 1) all)
    (laid_over before x.changed)))) does)
added_refused all i item rows added n ns Memory is lt s r = tt

pub added_all : (all : List InsertItem) (i : ℕ) (rows added : List Row) (n : ℕ) (ns : List ℕ)
    (writes : List Write) → length all ≤ i → AddedSoFar all (drop i all) rows added n
    → writes ≡ map (put_of ns) added
    → meaning_of count_met (put_of ns) (rest_of all rows) ≡ Ok (Count n 0, writes)
added_all all i rows added n ns writes h s is =
    let doing : rest_of all rows ≡ Ok s.so_far = sym s.doing
    ∙ ap (λ xs. with_done s.so_far (rest_of xs (laid_over rows s.so_far.changed)))
    (drop_all i all h) ∙ ap Ok (both_nothing s.so_far) in
    ap (meaning_of count_met (put_of ns)) doing
    ∙ ap₂ (λ (r : OpReply) ws. Ok (r, ws)) (ap (λ (x : ℕ). Count x 0) (sym s.n_is))
    (sym (is ∙ ap (map (put_of ns)) s.added_is))
