-- A name is what stands before the first 00.
use Rattle.std.proofs.Common.{◌≡◌, ℕ, ◌<◌, Bool, true, false, cond, not, eqb, List, [], ◌∷◌, length}
use Rattle.std.proofs.Common.{get_or, take, Some, None, refl, ap, subst}
use Rattle.std.specs.Prelude.{position}
use Rattle.std.specs.List.{list_all, take_while, position_or_len}
use Rattle.std.proofs.lemmas.List.Folds.{list_all_at}
use Rattle.std.proofs.lemmas.List.Sums.{take_while-cons}
use Rattle.bson_core.specs.Names.{has_no_zero}

-- what is taken while it passes a test passes it
one_more : (b : Bool) (p : ℕ → Bool) (x : ℕ) (xs : List ℕ) → p x ≡ b → list_all p xs ≡ true
    → list_all p (cond b (x ∷ xs) []) ≡ true
one_more true p x xs passes rest = rw (passes, rest) refl
one_more false p x xs passes rest = refl

passes_in_front : (p : ℕ → Bool) (xs : List ℕ) → list_all p (take_while p xs) ≡ true
passes_in_front p [] = refl
passes_in_front p (x ∷ xs) =
    rw (take_while-cons p x xs) (one_more (p x) p x (take_while p xs) refl (passes_in_front p xs))

-- before the first 00, or in all of the bytes where there is none
pub no_zero_before : (bytes : List ℕ)
    → has_no_zero (take (position_or_len (λ b. eqb b 0) bytes) bytes) ≡ true
no_zero_before bytes = passes_in_front (λ b. not (eqb b 0)) bytes

-- the same, where a search has found the place
place_is : (b : Bool) (n m : ℕ) → Some n ≡ cond b (Some m) None → m ≡ n
place_is true n m e = cc
place_is false n m e = absurd cc

pub no_zero_before_place : (bytes : List ℕ) (n : ℕ) → Some n ≡ position (λ b. eqb b 0) bytes
    → has_no_zero (take n bytes) ≡ true
no_zero_before_place bytes n e =
    subst (λ (m : ℕ). has_no_zero (take m bytes) ≡ true) (place_is _ n _ e) (no_zero_before bytes)

-- each byte of a name
pub not_zero_at : (name : List ℕ) (k : ℕ) → has_no_zero name ≡ true → k < length name
    → get_or name k 0 ≡ 0 → ⊥
not_zero_at name k none lt is =
    let some : has_no_zero name ≡ false =
    list_all_at (λ b. not (eqb b 0)) name k 0 lt (ap (λ (b : ℕ). not (eqb b 0)) is) in
    cc
