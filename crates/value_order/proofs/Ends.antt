-- The end of the shorter of two lists: their lengths decide.
use Rattle.std.proofs.Common.{◌≡◌, ℕ, ◌-◌, min, List, [], ◌∷◌, length, drop, arith, length-drop}
use Rattle.std.specs.declared.cmp.Ordering.{Ordering}
use Rattle.std.specs.Ordering.{nat_cmp}
use Rattle.std.specs.Cmp.Lexicographic.{slice_cmp}
use Rattle.std.proofs.lemmas.Bool.Decides.{nat_tests}

-- where one of them is empty
one_empty : {A : Type 0} (R : A → A → Ordering) (xs ys : List A) (m n k : ℕ) → length xs ≡ m - k
    → length ys ≡ n - k → k ≡ min m n → slice_cmp R xs ys ≡ nat_cmp m n
one_empty R [] [] m n k h i j = grind (arith, nat_tests)
one_empty R [] (y ∷ ys) m n k h i j = grind (arith, nat_tests)
one_empty R (x ∷ xs) [] m n k h i j = grind (arith, nat_tests)
one_empty R (x ∷ xs) (y ∷ ys) m n k h i j = absurd (omega (arith, h, i, j))

pub ended : {A : Type 0} (R : A → A → Ordering) (xs ys : List A) (k : ℕ)
    → k ≡ min (length xs) (length ys)
    → slice_cmp R (drop k xs) (drop k ys) ≡ nat_cmp (length xs) (length ys)
ended R xs ys k h = one_empty R (drop k xs) (drop k ys) (length xs) (length ys) k (length-drop k xs)
    (length-drop k ys) h
