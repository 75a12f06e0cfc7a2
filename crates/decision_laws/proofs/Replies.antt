-- A reply to an operation tells whether it wrote: of two evaluations of it that are told alike, both
-- write or none does.
use Rattle.std.proofs.Common.{◌≡◌, ◌++◌, ℕ, Bool, true, false, List, []}
use Rattle.std.proofs.Common.{◌∷◌, Option, Some, None, Result, Ok, Err, map, length, refl, sym}
use Rattle.std.proofs.Common.{ap, ap₂, subst, ◌∙◌, if◌then◌else◌, arith}
use Rattle.std.proofs.lemmas.List.{nil_from_length}
use Rattle.std.specs.declared.cmp.Ordering.{Ordering}
use Rattle.std.specs.declared.cmp.Ordering.TheVariants.{Less, Equal, Greater}
use Rattle.txn_types.specs.declared.id.Id.{Id}
use Rattle.txn_types.specs.declared.operation.DeleteItem.{DeleteItem}
use Rattle.txn_types.specs.declared.operation.InsertItem.{InsertItem}
use Rattle.txn_types.specs.declared.operation.Op.{Op}
use Rattle.txn_types.specs.declared.operation.Op.TheVariants.{Insert, Find, Update, Delete}
use Rattle.txn_types.specs.declared.operation.OpReply.{OpReply}
use Rattle.txn_types.specs.declared.operation.OpReply.TheVariants.{Count, Rows}
use Rattle.txn_types.specs.declared.operation.What.TheVariants.{Duplicate}
use Rattle.txn_types.specs.declared.write.Write.{Write}
use Rattle.txn_semantics.specs.Effect.{Done, Doing, DocumentRules, through, after, with_done}
use Rattle.txn_semantics.specs.Effect.{insert_step, insert_new, update_step, delete_step, without}
use Rattle.txn_semantics.specs.Keyed.{put, laid}
use Rattle.txn_semantics.specs.Meaning.{Meaning, eval, reply_of, writes_of, meaning_of, capped}
use Rattle.txn_semantics.specs.Meaning.{count_met, count_both, put_of, removed_of, document_rules}
use Rattle.txn_semantics.specs.Rows.{Row, laid_over, holds_id}
use Rattle.txn_semantics.specs.Writes.{write_set, placed, place_cmp}

-- What is laid over something leaves something.

pub no_cons : {A X : Type 0} (x : A) (xs : List A) → x ∷ xs ≡ [] → X
no_cons x xs e = cc

module _ {K A : Type 0} (cmp : K → K → Ordering) where
  put_some : {X : Type 0} (key : K) (a : A) (rows : List (K × A)) → put cmp key a rows ≡ [] → X
  put_some {X} key a [] e = no_cons (key, a) [] e
  put_some {X} key a (row ∷ rows) e = by (cmp key row.0) e
    where
      by : (o : Ordering) → ◌≡◌ {A = List (K × A)} (elim o [
        | Less ↦ (key, a) ∷ row ∷ rows
        | Equal ↦ (key, a) ∷ rows
        | Greater ↦ row ∷ put cmp key a rows
      ]) [] → X
      by Less e = no_cons (key, a) (row ∷ rows) e
      by Equal e = no_cons (key, a) rows e
      by Greater e = no_cons row (put cmp key a rows) e

  laid_some : {X : Type 0} (row : K × A) (rows others : List (K × A))
      → laid cmp (row ∷ rows) others ≡ [] → X
  laid_some {X} row rows [] e = no_cons row rows e
  laid_some {X} row rows (other ∷ others) e =
      by (put cmp other.0 other.1 (row ∷ rows)) refl
      (λ more. laid_some more.0 more.1 others) e
    where
      by : (all : List (K × A)) → put cmp other.0 other.1 (row ∷ rows) ≡ all
          → ((more : (K × A) × List (K × A)) → laid cmp (more.0 ∷ more.1) others ≡ [] → X)
          → laid cmp all others ≡ [] → X
      by [] is go e = put_some other.0 other.1 (row ∷ rows) is
      by (first ∷ more) is go e = go (first, more) e

  laid_none : (others : List (K × A)) → laid cmp [] others ≡ [] → others ≡ []
  laid_none [] e = refl
  laid_none (other ∷ others) e = laid_some (other.0, other.1) [] others e

map_none : {A B : Type 0} (f : A → B) (xs : List A) → map f xs ≡ [] → xs ≡ []
map_none f [] e = refl
map_none f (x ∷ xs) e = no_cons (f x) (map f xs) e

-- what has no last writes has none
pub no_writes : (writes : List Write) → write_set writes ≡ [] → writes ≡ []
no_writes writes e =
    map_none placed writes (laid_none place_cmp (map placed writes)
    (map_none (λ row. row.1) (laid place_cmp [] (map placed writes)) e))

-- Inserts and deletes change what they meet.

abbrev IsAll : Doing → Type 0
IsAll (Ok done) = done.met ≡ done.changed
IsAll (Err e) = Unit {0}

with_all : (done : Done) (d : Doing) → done.met ≡ done.changed → IsAll d → IsAll (with_done done d)
with_all done (Ok more) h k = ap₂ (λ (a b : List Row). a ++ b) h k
with_all done (Err e) h k = tt

after_all : (d : Doing) (next : Done → Doing) → IsAll d → ((done : Done) → IsAll (next done))
    → IsAll (after d next)
after_all (Ok done) next h k = with_all done (next done) h (k done)
after_all (Err e) next h k = tt

through_all : {I : Type 0} (step : I → List Row → Doing) (left : List Row → List Row → List Row)
    → ((item : I) (rows : List Row) → IsAll (step item rows)) → (items : List I) (rows : List Row)
    → IsAll (through step left items rows)
through_all step left h [] rows = refl
through_all step left h (item ∷ items) rows =
    after_all (step item rows) (λ done. through step left items (left rows done.changed))
    (h item rows) (λ done. through_all step left h items (left rows done.changed))

insert_all : (w : DocumentRules) (item : InsertItem) (rows : List Row)
    → IsAll (insert_step w item rows)
insert_all w item rows = by (w.id_in item.doc)
  where
    new : (id : Id) (test : Bool) → IsAll (if test then
        Err (record { index = item.index; id = id; what = Duplicate })
        else Ok (record { met = (id, item.doc) ∷ []; changed = (id, item.doc) ∷ [] }))
    new id true = tt
    new id false = refl

    by : (id : Option Id) → IsAll (elim id [
      | None ↦ Ok (record { met = []; changed = [] })
      | Some id ↦ insert_new item rows id
    ])
    by None = refl
    by (Some id) = new id (holds_id id rows)

delete_all : (w : DocumentRules) (item : DeleteItem) (rows : List Row)
    → IsAll (delete_step w item rows)
delete_all w item rows = refl

-- What a reply counts.

none_counted : (n m : ℕ) → capped n ≡ capped m → n ≡ 0 → m ≡ 0
none_counted n m e none = omega (arith, e, none)

first_of : OpReply → ℕ
first_of (Count met changed) = met
first_of (Rows rows more) = 0

second_of : OpReply → ℕ
second_of (Count met changed) = changed
second_of (Rows rows more) = 0

no_rows : (xs ys : List Row) → capped (length xs) ≡ capped (length ys) → xs ≡ [] → ys ≡ []
no_rows xs ys e none =
    nil_from_length ys (none_counted (length xs) (length ys) e (ap (λ (l : List Row). length l) none))

counts_met : (a b : Done) → a.met ≡ a.changed → b.met ≡ b.changed → count_met a ≡ count_met b
    → a.changed ≡ [] → b.changed ≡ []
unfolding first_of
counts_met a b ha hb e none = sym hb ∙ no_rows a.met b.met (ap first_of e) (ha ∙ none)

counts_both : (a b : Done) → count_both a ≡ count_both b → a.changed ≡ [] → b.changed ≡ []
unfolding second_of
counts_both a b e none = no_rows a.changed b.changed (ap second_of e) none

-- Two evaluations.

pub ok_is : {A B : Type 0} (a b : A) → ◌≡◌ {A = Result A B} (Ok a) (Ok b) → a ≡ b
ok_is a b e = grind (arith, e)

err_not : {A B X : Type 0} (a : A) (b : B) → ◌≡◌ {A = Result A B} (Ok a) (Err b) → X
err_not a b e = cc

module _ (reply : Done → OpReply) (write : Row → Write) where
  abbrev Of : Doing → Meaning
  Of d = meaning_of reply write d

  alike_done : (d e : Doing) → ((a b : Done) → d ≡ Ok a → e ≡ Ok b → reply a ≡ reply b
      → a.changed ≡ [] → b.changed ≡ [])
      → reply_of (Of d) ≡ reply_of (Of e) → writes_of (Of d) ≡ [] → writes_of (Of e) ≡ []
  alike_done (Ok a) (Ok b) f same none =
      let changed : a.changed ≡ [] = laid_none _ a.changed
      (map_none write (laid_over [] a.changed) none) in
      ap (λ (rows : List Row). map write (laid_over [] rows))
      (f a b refl refl (ok_is (reply a) (reply b) same) changed)
  alike_done (Ok a) (Err e) f same none = refl
  alike_done (Err d) (Err e) f same none = refl
  alike_done (Err d) (Ok b) f same none = err_not (reply b) d (sym same)

all_of : (d : Doing) (done : Done) → d ≡ Ok done → IsAll d → done.met ≡ done.changed
all_of d done is h = subst IsAll is h

pub writes_alike : (op : Op) (rows others : List Row)
    → reply_of (eval op rows) ≡ reply_of (eval op others) → writes_of (eval op rows) ≡ []
    → writes_of (eval op others) ≡ []
writes_alike (Insert ns items) rows others same none =
    let d = through (insert_step document_rules) laid_over items in
    let all = through_all (insert_step document_rules) laid_over (insert_all document_rules) items in
    alike_done count_met (put_of ns) (d rows) (d others)
    (λ a b p q. counts_met a b (all_of (d rows) a p (all rows)) (all_of (d others) b q (all others)))
    same none
writes_alike (Find ns wanted down limit) rows others same none = refl
writes_alike (Update ns items) rows others same none =
    let d = through (update_step document_rules) laid_over items in
    alike_done count_both (put_of ns) (d rows) (d others) (λ a b p q. counts_both a b) same none
writes_alike (Delete ns items) rows others same none =
    let d = through (delete_step document_rules) without items in
    let all = through_all (delete_step document_rules) without (delete_all document_rules) items in
    alike_done count_met (removed_of ns) (d rows) (d others)
    (λ a b p q. counts_met a b (all_of (d rows) a p (all rows)) (all_of (d others) b q (all others)))
    same none
