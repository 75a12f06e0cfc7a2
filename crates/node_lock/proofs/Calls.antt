-- Histories that grow by a call, and the calls of a pass in them.
use Rattle.std.proofs.Common.{◌≡◌, ◌≢◌, ⊎_elim, ℕ, zero, suc, ◌+◌, ◌<◌, ◌≤◌, ◌%◌, ◌^◌, List, []}
use Rattle.std.proofs.Common.{◌∷◌, ◌++◌, length, cond, eqb, refl, sym, ap, ◌∙◌, subst, arith}
use Rattle.std.proofs.Common.{append_assoc, append-nil}
use Rattle.std.specs.Prelude.{Some, slice_get}
use Rattle.std.specs.List.{All, count_by}
use Rattle.std.proofs.lemmas.Bool.{eq-eqb, ne_eqb, lt-ltb, le-ltb, cases_lt}
use Rattle.std.proofs.lemmas.List.Elements.{All-append}
use Rattle.std.proofs.lemmas.Option.{slice_get_within}
use Rattle.std.proofs.lemmas.List.Sums.{sum_by-append}
use Rattle.std.proofs.Math.Nat.{mod-add-mod}
use mathlib.Core.List.{IsPrefix}
use mathlib.Core.Logic.{dite}
use native.Mathlib.Decide.{ℕ_discrete}
use Rattle.machine.specs.History.{Legal}
use Rattle.node_lock.specs.Known.{wrap}
use Rattle.node_lock.specs.Rule.{once_below}

pub wrap_suc : (n : ℕ) → (wrap n + 1) % 2 ^ 64 ≡ wrap (n + 1)
wrap_suc n = mod-add-mod n (2 ^ 64) 1

pub legal_snoc : {M E A : Type 0} (takes : M → E → A → M
    → Type 0) (old : M) (log : List (E × A)) (x y : M) (e : E) (a : A) → Legal takes old log x
    → takes x e a y → Legal takes old (log ++ (e, a) ∷ []) y
legal_snoc takes old [] x y e a legal taken = (y, subst (λ z. takes z e a y) legal taken, refl)
legal_snoc takes old (call ∷ calls) x y e a legal taken =
    (legal.0, legal.1, legal_snoc takes legal.0 calls x y e a legal.2 taken)

module _ {X : Type 0} where
  pub prefix_self : (xs : List X) → IsPrefix xs xs
  prefix_self xs = ([], append-nil xs)

  pub prefix_none : (xs : List X) → IsPrefix [] xs
  prefix_none xs = (xs, refl)

  pub prefix_more : (xs ys zs : List X) → IsPrefix xs ys → IsPrefix xs (ys ++ zs)
  prefix_more xs ys zs p = (p.0 ++ zs, sym (append_assoc xs p.0 zs) ∙ ap (λ w. w ++ zs) p.1)

  slice_get_front : (xs ys : List X) (i : ℕ) (x : X) → slice_get xs i ≡ Some x
      → slice_get (xs ++ ys) i ≡ Some x
  slice_get_front [] ys i x e = absurd (omega (arith, slice_get_within [] i x e))
  slice_get_front (y ∷ xs) ys zero x e = e
  slice_get_front (y ∷ xs) ys (suc i) x e = slice_get_front xs ys i x e

  slice_get_end : (xs : List X) (x : X) → slice_get (xs ++ x ∷ []) (length xs) ≡ Some x
  slice_get_end [] x = refl
  slice_get_end (y ∷ xs) x = slice_get_end xs x

  abbrev Stand : List X → List (ℕ × X) → Type 0
  Stand log mine = All (λ call. slice_get log call.0 ≡ Some call.1) mine

  pub placed_more : (log more : List X) (mine : List (ℕ × X)) → Stand log mine
      → Stand (log ++ more) mine
  placed_more log more mine h k d lt = slice_get_front log more _ _ (h k d lt)

  pub placed_snoc : (log : List X) (mine : List (ℕ × X)) (x : X) → Stand log mine
      → Stand (log ++ x ∷ []) (mine ++ (length log, x) ∷ [])
  placed_snoc log mine x h = All-append (λ call. slice_get (log ++ x ∷ []) call.0 ≡ Some call.1)
      mine ((length log, x) ∷ []) (placed_more log (x ∷ []) mine h) (λ k d lt. one k d lt)
    where
      one : Stand (log ++ x ∷ []) ((length log, x) ∷ [])
      one zero d lt = slice_get_end log x
      one (suc k) d lt = absurd (omega (arith, lt))

  pub placed_both : (log : List X) (mine theirs : List (ℕ × X)) → Stand log mine → Stand log theirs
      → Stand log (mine ++ theirs)
  placed_both log mine theirs h g =
      All-append (λ call. slice_get log call.0 ≡ Some call.1) mine theirs h g

  pub placed_none : (log : List X) → Stand log []
  placed_none log k d lt = absurd (omega (arith, lt))

  abbrev count : ℕ → List (ℕ × X) → ℕ
  count place calls = count_by (λ call. eqb call.0 place) calls

  pub count_both : (place : ℕ) (mine theirs : List (ℕ × X))
      → count place (mine ++ theirs) ≡ count place mine + count place theirs
  count_both place mine theirs = sum_by-append _ mine theirs

  pub count_snoc : (place n : ℕ) (mine : List (ℕ × X)) (x : X)
      → count place (mine ++ (n, x) ∷ []) ≡ count place mine + cond (eqb n place) 1 0
  count_snoc place n mine x = let e = count_both place mine ((n, x) ∷ []) in omega (arith, e)

below : (place n : ℕ) → place < n → once_below place n ≡ 1
below place n lt = ap (λ b. cond b 1 0) (lt-ltb place n lt)

above : (place n : ℕ) → n ≤ place → once_below place n ≡ 0
above place n le = ap (λ b. cond b 1 0) (le-ltb place n le)

-- 1 where the places are one
abbrev pub one_if : ℕ → ℕ → ℕ
one_if n place = cond (eqb n place) 1 0

same : (place n : ℕ) → n ≡ place → one_if n place ≡ 1
same place n e = ap (λ b. cond b 1 0) (eq-eqb n place e)

other : (place n : ℕ) → n ≢ place → one_if n place ≡ 0
other place n ne = ap (λ b. cond b 1 0) (ne_eqb n place ne)

pub once_below_more : (place n : ℕ) → once_below place (n + 1) ≡ once_below place n + one_if n place
once_below_more place n = ⊎_elim
    (λ (lt : place < n). omega (
      arith,
      below place n lt,
      below place (n + 1) (omega (arith, lt)),
      other place n (λ e. omega (arith, lt, e)),
    ))
    (λ (le : n ≤ place). dite (ℕ_discrete n place)
    (λ e. omega (arith, above place n le, below place (n + 1) (omega (arith, e)), same place n e))
    (λ ne. omega
    (arith, above place n le, above place (n + 1) (omega (arith, le, ne)), other place n ne)))
    (cases_lt place n)

pub once_at_most : (place n : ℕ) → once_below place n ≤ 1
once_at_most place n = ⊎_elim
    (λ (lt : place < n). omega (arith, below place n lt))
    (λ (le : n ≤ place). omega (arith, above place n le))
    (cases_lt place n)

pub once_is : (place n : ℕ) → place < n → once_below place n ≡ 1
once_is = below

pub once_none : (place : ℕ) → once_below place 0 ≡ 0
once_none place = above place 0 (omega arith)
