-- Item by item: what was done so far, and what the operation means at its end.
use Rattle.std.proofs.Common.{◌≡◌, ℕ, ◌+◌, List, [], ◌∷◌, ◌++◌, Option, Ok}
use Rattle.std.proofs.Common.{length, map, refl, ap, ap₂, subst, sym, ◌∙◌, arith}
use Rattle.std.proofs.Common.{length-append, drop, take, suc, get_or, ◌<◌, ◌≤◌}
use Rattle.std.proofs.lemmas.List.{drop_all, take_all, append-nil}
use Rattle.std.proofs.Math.Seq.{drop-cons}
use Rattle.std.specs.declared.cmp.Ordering.{Ordering}
use Rattle.std.specs.declared.cmp.Ordering.TheVariants.{Less, Equal, Greater}
use Rattle.bson_core.specs.Fields.{Document}
use Rattle.txn_types.specs.Order.{id_cmp}
use Rattle.txn_types.specs.declared.id.Id.{Id}
use Rattle.txn_types.specs.declared.operation.OpReply.{OpReply}
use Rattle.txn_types.specs.declared.write.Write.{Write}
use Rattle.txn_semantics.specs.Effect.{AreKnown, Done, Doing, nothing, both, with_done, after}
use Rattle.txn_semantics.specs.Effect.{through}
use Rattle.txn_semantics.specs.Meaning.{capped, meaning_of, document_rules}
use Rattle.txn_semantics.specs.Rows.{Row, IsRising, put_row, laid_over}
use Rattle.query_eval.specs.Acts.{Acted, Follows, Refuses}
use Rattle.query_eval.specs.Held.{rows_in, all_written, write_of}
use Rattle.query_eval.specs.declared.error.EvalErr.{EvalErr}
use Rattle.query_eval.specs.declared.error.EvalErr.TheVariants.{Op, Memory}
use Rattle.query_eval.specs.declared.evaluating.Met.{Met}
use Rattle.query_eval.specs.declared.held.Held.{Held}
use Rattle.query_eval.proofs.Acting.{with_twice, with_nothing, both_nothing, follows_start}
use Rattle.query_eval.proofs.Acting.{follows_more}

-- the items so far, and those that are left
pub record SoFar {I : Type 0} (step : I → List Row → Doing) (content : Document → Option Document)
    (left : List Row → List Row → List Row) (all rest : List I) (before now : List (Id × Held))
    (n modified : ℕ) : Type 0 where
  pub so_far : Done
  pub doing : with_done so_far (through step left rest (rows_in now))
      ≡ through step left all (rows_in before)
  pub follows : Follows content left before so_far now
  pub n_is : n ≡ capped (length so_far.met)
  pub modified_is : modified ≡ capped (length so_far.changed)

pub so_far_start : {I : Type 0} (step : I → List Row → Doing) (content : Document → Option Document)
    (left : List Row → List Row → List Row) (all : List I) (before : List (Id × Held))
    → ((rows : List Row) → left rows [] ≡ rows) → IsRising before
    → AreKnown document_rules (rows_in before)
    → SoFar step content left all all before before 0 0
so_far_start step content left all before idle rising known = record {
  so_far = nothing;
  doing = with_nothing (through step left all (rows_in before));
  follows = follows_start content left before idle rising known;
  n_is = omega arith;
  modified_is = omega arith;
}

pub so_far_more : {I : Type 0} (step : I → List Row → Doing) (content : Document → Option Document)
    (left : List Row → List Row → List Row) (all : List I) (item : I) (rest : List I)
    (before now next : List (Id × Held)) (n modified : ℕ) (met : Met)
    → ((rows xs ys : List Row) → left rows (xs ++ ys) ≡ left (left rows xs) ys)
    → SoFar step content left all (item ∷ rest) before now n modified
    → Acted content left (step item (rows_in now)) now next met
    → SoFar step content left all rest before next (capped (n + met.n))
    (capped (modified + met.changed))
so_far_more step content left all item rest before now next n modified met more s a = record {
  so_far = both s.so_far a.done;
  doing = sym (with_twice s.so_far a.done (through step left rest (rows_in next)))
      ∙ ap (λ xs. with_done s.so_far (with_done a.done (through step left rest xs)))
      (a.follows.rows)
      ∙ ap (λ r. with_done s.so_far (after r
      (λ d. through step left rest (left (rows_in now) d.changed)))) (sym a.does) ∙ s.doing;
  follows = follows_more content left before now next s.so_far a.done more s.follows a.follows;
  n_is = omega (arith, s.n_is, a.n, length-append s.so_far.met a.done.met);
  modified_is =
      omega (arith, s.modified_is, a.changed, length-append s.so_far.changed a.done.changed);
}

-- the same where only the documents that were met are counted
pub so_far_met : {I : Type 0} (step : I → List Row → Doing) (content : Document
    → Option Document) (left : List Row → List Row
    → List Row) (all rest : List I) (before now : List (Id × Held)) (n modified : ℕ)
    → SoFar step content left all rest before now n modified → n ≡ capped n
so_far_met step content left all rest before now n modified s = omega (arith, s.n_is)

pub so_far_refused : {I : Type 0} (step : I → List Row → Doing)
    (content : Document → Option Document) (left : List Row → List Row → List Row)
    (all : List I) (item : I) (rest : List I) (before now : List (Id × Held)) (n modified : ℕ)
    (reply : Done → OpReply) (write : Row → Write) (e : EvalErr)
    → SoFar step content left all (item ∷ rest) before now n modified
    → Refuses e (step item (rows_in now))
    → Refuses e (meaning_of reply write (through step left all (rows_in before)))
so_far_refused step content left all item rest before now n modified reply write (Op e) s r =
    ap (meaning_of reply write) (sym s.doing ∙ ap (λ d. with_done s.so_far
    (after d (λ x. through step left rest (left (rows_in now) x.changed)))) r)
so_far_refused step content left all item rest before now n modified reply write Memory s r = tt

-- laying, with each content seen in another way
abbrev seen : {A B : Type 0} → (A → B) → List (Id × A) → List (Id × B)
seen f rows = map (λ row. (row.0, f row.1)) rows

put_map_case : {A B : Type 0} (f : A → B) (id : Id) (a : A) (row : Id × A) (rows : List (Id × A))
    (o : Ordering) → seen f (put_row id a rows) ≡ put_row id (f a) (seen f rows)
    → seen f (elim o [
      | Less ↦ (id, a) ∷ row ∷ rows
      | Equal ↦ (id, a) ∷ rows
      | Greater ↦ row ∷ put_row id a rows
    ])
    ≡ (elim o [
      | Less ↦ (id, f a) ∷ seen f (row ∷ rows)
      | Equal ↦ (id, f a) ∷ seen f rows
      | Greater ↦ (row.0, f row.1) ∷ put_row id (f a) (seen f rows)
    ])
put_map_case f id a row rows Less more = refl
put_map_case f id a row rows Equal more = refl
put_map_case {A} {B} f id a row rows Greater more =
    ap (λ (xs : List (Id × B)). (row.0, f row.1) ∷ xs) more

pub put-map : {A B : Type 0} (f : A → B) (id : Id) (a : A) (rows : List (Id × A))
    → seen f (put_row id a rows) ≡ put_row id (f a) (seen f rows)
put-map f id a [] = refl
put-map f id a (row ∷ rows) = put_map_case f id a row rows (id_cmp id row.0) (put-map f id a rows)

pub laid-map : {A B : Type 0} (f : A → B) (rows others : List (Id × A))
    → seen f (laid_over rows others) ≡ laid_over (seen f rows) (seen f others)
laid-map f rows [] = refl
laid-map {A} {B} f rows (other ∷ others) = laid-map f (put_row other.0 other.1 rows) others
    ∙ ap (λ (xs : List (Id × B)). laid_over xs (seen f others)) (put-map f other.0 other.1 rows)

map_same : (content : Document → Option Document) (write : Row → Write) (ns : List ℕ)
    → ((row : Row) → write_of ns (row.0, content row.1) ≡ write row) → (rows : List Row)
    → map (write_of ns) (map (λ (row : Row). (row.0, content row.1)) rows) ≡ map write rows
map_same content write ns h [] = refl
map_same content write ns h (row ∷ rows) =
    ap₂ (λ (w : Write) ws. w ∷ ws) (h row) (map_same content write ns h rows)

pub writes_are : (content : Document → Option Document) (left : List Row → List Row
    → List Row) (write : Row → Write) (ns : List ℕ) (before now : List (Id × Held)) (done : Done)
    → ((row : Row) → write_of ns (row.0, content row.1) ≡ write row)
    → all_written before ≡ [] → Follows content left before done now
    → map (write_of ns) (all_written now) ≡ map write (laid_over [] done.changed)
writes_are content left write ns before now done h unwritten f =
    ap (map (write_of ns)) (f.written
    ∙ ap (λ xs. laid_over xs (map (λ (row : Row). (row.0, content row.1)) done.changed))
    unwritten ∙ sym (laid-map content [] done.changed))
    ∙ map_same content write ns h (laid_over [] done.changed)

-- at its end
pub so_far_ended : {I : Type 0} (step : I → List Row → Doing) (content : Document → Option Document)
    (left : List Row → List Row → List Row) (all : List I) (before now : List (Id × Held))
    (n modified : ℕ) (reply : Done → OpReply) (write : Row → Write) (ns : List ℕ) (told : OpReply)
    (writes : List Write)
    → ((row : Row) → write_of ns (row.0, content row.1) ≡ write row) → all_written before ≡ []
    → (s : SoFar step content left all [] before now n modified) → told ≡ reply s.so_far
    → writes ≡ map (write_of ns) (all_written now)
    → meaning_of reply write (through step left all (rows_in before)) ≡ Ok (told, writes)
so_far_ended step content left all before now n modified reply write ns told writes h
    unwritten s is w =
    ap (meaning_of reply write) (sym s.doing ∙ ap Ok (both_nothing s.so_far))
    ∙ ap₂ (λ (r : OpReply) ws. Ok (r, ws)) (sym is)
    (sym (w ∙ writes_are content left write ns before now s.so_far h unwritten s.follows))

-- one more item
pub so_far_turn : {I : Type 0} (step : I → List Row → Doing) (content : Document → Option Document)
    (left : List Row → List Row → List Row) (all : List I) (i : ℕ) (item : I)
    (before now next : List (Id × Held)) (n modified : ℕ) (met : Met)
    → ((rows xs ys : List Row) → left rows (xs ++ ys) ≡ left (left rows xs) ys)
    → item ≡ get_or all i item → i < length all
    → SoFar step content left all (drop i all) before now n modified
    → Acted content left (step item (rows_in now)) now next met
    → SoFar step content left all (drop (i + 1) all) before next (capped (n + met.n))
    (capped (modified + met.changed))
so_far_turn {I} step content left all i item before now next n modified met more is lt s a =
    let next_place : suc i ≡ i + 1 = omega arith in
    let rest : drop i all ≡ item ∷ drop (i + 1) all = drop-cons all i item lt
    ∙ ap (λ (x : I). x ∷ drop (suc i) all) (sym is) ∙ ap (λ k. item ∷ drop k all) next_place in
    so_far_more step content left all item (drop (i + 1) all) before now next n modified met more
    (subst (λ xs. SoFar step content left all xs before now n modified) rest s) a

pub so_far_err : {I : Type 0} (step : I → List Row → Doing) (content : Document → Option Document)
    (left : List Row → List Row → List Row) (all : List I) (i : ℕ) (item : I) (before now : List (Id
    × Held)) (n modified : ℕ) (reply : Done → OpReply) (write : Row → Write) (e : EvalErr)
    → item ≡ get_or all i item → i < length all
    → SoFar step content left all (drop i all) before now n modified
    → Refuses e (step item (rows_in now))
    → Refuses e (meaning_of reply write (through step left all (rows_in before)))
so_far_err {I} step content left all i item before now n modified reply write e is lt s r =
    let next_place : suc i ≡ i + 1 = omega arith in
    let rest : drop i all ≡ item ∷ drop (i + 1) all = drop-cons all i item lt
    ∙ ap (λ (x : I). x ∷ drop (suc i) all) (sym is) ∙ ap (λ k. item ∷ drop k all) next_place in
    so_far_refused step content left all item (drop (i + 1) all) before now n modified reply write e
    (subst (λ xs. SoFar step content left all xs before now n modified) rest s) r

pub so_far_all : {I : Type 0} (step : I → List Row → Doing) (content : Document
    → Option Document) (left : List Row → List Row → List Row) (all : List I) (i : ℕ)
    (before now : List (Id × Held)) (n modified : ℕ) → length all ≤ i
    → SoFar step content left all (drop i all) before now n modified
    → SoFar step content left all [] before now n modified
so_far_all step content left all i before now n modified h s =
    subst (λ xs. SoFar step content left all xs before now n modified) (drop_all i all h) s

-- a slice of a whole vector, written back
pub back : {A : Type 0} (xs ys : List A) (n : ℕ) → length xs ≡ n → length ys ≡ n
    → take n (xs ++ drop (length xs) ys) ≡ xs
back xs ys n hx hy =
    let none : drop (length xs) ys ≡ [] = drop_all (length xs) ys (omega arith) in
    ap (λ zs. take n (xs ++ zs)) none ∙ ap (take n) (append-nil xs) ∙ take_all n xs (omega arith)
