-- A list from which some are taken out, place by place.
use Rattle.std.proofs.Common.{◌≡◌, ℕ, zero, suc, Bool, true, false, cond, List, [], ◌∷◌, ◌++◌, Some}
use Rattle.std.proofs.Common.{None, filter, take, drop, remove, slice_get, refl, ap, ◌∙◌, sym}

module _ {A : Type 0} (test : A → Bool) where
  -- those before a place, and those after it that pass
  abbrev pub sifted : ℕ → List A → List A
  sifted i xs = take i xs ++ filter test (drop i xs)

  pub sifted_out : (xs : List A) (i : ℕ) (x : A) → slice_get xs i ≡ Some x → test x ≡ false
      → sifted i (remove xs i) ≡ sifted i xs
  sifted_out [] i x is fails = cc
  sifted_out (y ∷ xs) zero x is fails =
      let one : y ≡ x = cc in
      ap (λ b. cond b (y ∷ filter test xs) (filter test xs)) (sym (ap test one ∙ fails))
  sifted_out (y ∷ xs) (suc i) x is fails =
      ap (λ (rest : List A). y ∷ rest) (sifted_out xs i x is fails)

  pub sifted_in : (xs : List A) (i : ℕ) (x : A) → slice_get xs i ≡ Some x → test x ≡ true
      → sifted (suc i) xs ≡ sifted i xs
  sifted_in [] i x is passes = cc
  sifted_in (y ∷ xs) zero x is passes =
      let one : y ≡ x = cc in
      ap (λ b. cond b (y ∷ filter test xs) (filter test xs)) (sym (ap test one ∙ passes))
  sifted_in (y ∷ xs) (suc i) x is passes =
      ap (λ (rest : List A). y ∷ rest) (sifted_in xs i x is passes)

  pub sifted_all : (xs : List A) (i : ℕ) → slice_get xs i ≡ None → sifted i xs ≡ xs
  sifted_all [] zero is = refl
  sifted_all [] (suc i) is = refl
  sifted_all (y ∷ xs) zero is = cc
  sifted_all (y ∷ xs) (suc i) is = ap (λ (rest : List A). y ∷ rest) (sifted_all xs i is)
