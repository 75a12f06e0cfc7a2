-- Lists under keys, and tests of lists.
use Rattle.std.proofs.Common.{◌≡◌, zero, Some, ℕ, Bool, true, false, ◌&&◌, ◌||◌, All, List, [], ◌∷◌}
use Rattle.std.proofs.Common.{suc, nat_eq, refl, sym, ap, subst, ◌∙◌, arith}
use Rattle.std.specs.Prelude.{Contains, slice_get, slice_set}
use Rattle.std.specs.List.{list_any, list_all}
use Rattle.std.specs.declared.cmp.Ordering.{Ordering}
use Rattle.std.specs.declared.cmp.Ordering.TheVariants.{Less, Equal, Greater}
use Rattle.std.proofs.lemmas.Bool.{eqb-true}
use Rattle.std.proofs.lemmas.List.Elements.{All-nil, All-cons, All-head, All-tail}
use Rattle.txn_semantics.specs.Keyed.{put}
use Rattle.world_laws.proofs.Naming.{one}

pub nat_is : (a b : ℕ) → nat_eq a b ≡ true → a ≡ b
nat_is a b e = eqb-true a b e

pub both_true : (a b : Bool) → (a && b) ≡ true → (a ≡ true) × (b ≡ true)
both_true true b e = (refl, e)
both_true false b e = grind arith

pub has_first : {A : Type 0} (x : A) (xs : List A) → Contains (x ∷ xs) x
has_first x xs = (0, omega arith, refl)

pub has_more : {A : Type 0} (x : A) (xs : List A) (y : A) → Contains xs y → Contains (x ∷ xs) y
has_more x xs y h = (suc h.0, omega (arith, h.1), h.2)

any_case : (n m : ℕ) (ns : List ℕ) → (list_any (nat_eq n) ns ≡ true → Contains ns n) → (test : Bool)
    → nat_eq n m ≡ test → (test || list_any (nat_eq n) ns) ≡ true → Contains (m ∷ ns) n
any_case n m ns more true is e =
    subst (λ (x : ℕ). Contains (m ∷ ns) x) (sym (nat_is n m is)) (has_first m ns)
any_case n m ns more false is e = has_more m ns n (more e)

pub any_nat : (n : ℕ) (ns : List ℕ) → list_any (nat_eq n) ns ≡ true → Contains ns n
any_nat n [] e = grind arith
any_nat n (m ∷ ns) e = any_case n m ns (any_nat n ns) (nat_eq n m) refl
    (ap (λ (b : Bool). b || list_any (nat_eq n) ns) refl ∙ e)

pub all_true : {A : Type 0} (test : A → Bool) (xs : List A) → list_all test xs ≡ true
    → All (λ x. test x ≡ true) xs
all_true test [] e = All-nil (λ x. test x ≡ true)
all_true test (x ∷ xs) e = let b = both_true (test x) (list_all test xs) e in
    All-cons (λ x. test x ≡ true) x xs b.0 (all_true test xs b.1)

put_by : {K A : Type 0} (cmp : K → K → Ordering) (Q : K × A → Type 0) (key : K) (a : A)
    (row : K × A) (rows : List (K × A)) (o : Ordering)
    → Q (key, a) → Q row → All Q rows → All Q (put cmp key a rows)
    → All Q (elim o [
      | Less ↦ (key, a) ∷ row ∷ rows
      | Equal ↦ (key, a) ∷ rows
      | Greater ↦ row ∷ put cmp key a rows
    ])
put_by cmp Q key a row rows Less new one more puts =
    All-cons Q (key, a) (row ∷ rows) new (All-cons Q row rows one more)
put_by cmp Q key a row rows Equal new one more puts = All-cons Q (key, a) rows new more
put_by cmp Q key a row rows Greater new one more puts = All-cons Q row (put cmp key a rows) one puts

pub all_put : {K A : Type 0} (cmp : K → K → Ordering) (Q : K × A → Type 0) (key : K) (a : A)
    (rows : List (K × A)) → Q (key, a) → All Q rows → All Q (put cmp key a rows)
all_put cmp Q key a [] new h = All-cons Q (key, a) [] new (All-nil Q)
all_put cmp Q key a (row ∷ rows) new h =
    put_by cmp Q key a row rows (cmp key row.0) new (All-head Q row rows h) (All-tail Q row rows h)
    (all_put cmp Q key a rows new (All-tail Q row rows h))

-- what stands at a place is put there
pub set_same : {A : Type 0} (xs : List A) (i : ℕ) (x : A) → slice_get xs i ≡ Some x
    → slice_set xs i x ≡ xs
set_same [] i x e = refl
set_same (a ∷ xs) zero x e = let same : x ≡ a = grind (arith, e) in ap (λ (y : _). y ∷ xs) same
set_same (a ∷ xs) (suc i) x e = ap (λ (ys : List _). a ∷ ys) (set_same xs i x e)
