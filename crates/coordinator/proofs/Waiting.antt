-- The numbers of the routers that wait, against the flags that keep them.
use Rattle.std.proofs.Common.{◌≡◌, ℕ, ◌+◌, ◌<◌, ◌≤◌, Bool, true, false, cond, List, [], ◌∷◌, ◌||◌}
use Rattle.std.proofs.Common.{length, filter, set, get_or, refl, ap, sym, ◌∙◌, arith, eqb, suc}
use Rattle.std.proofs.Common.{zero, add-zero}
use Rattle.std.specs.List.{list_any}
use Rattle.std.proofs.lemmas.Bool.{lt-ltb, le-ltb, eq-eqb, ne_eqb}
use Rattle.txn_types.specs.Numbers.{put_number}
use Rattle.coordinator.specs.Askers.{numbers_from, routers}

put_same : (n : ℕ) (xs : List ℕ) → put_number n (n ∷ xs) ≡ n ∷ xs
put_same n xs =
    ap (λ (b : Bool). cond b (n ∷ n ∷ xs) (cond (eqb n n) (n ∷ xs) (n ∷ put_number n xs)))
    (le-ltb n n (omega arith))
    ∙ ap (λ (b : Bool). cond b (n ∷ xs) (n ∷ put_number n xs)) (eq-eqb n n refl)

put_above : (n m : ℕ) (xs : List ℕ) → m < n → put_number n (m ∷ xs) ≡ m ∷ put_number n xs
put_above n m xs h =
    ap (λ (b : Bool). cond b (n ∷ m ∷ xs) (cond (eqb n m) (m ∷ xs) (m ∷ put_number n xs)))
    (le-ltb n m (omega arith))
    ∙ ap (λ (b : Bool). cond b (m ∷ xs) (m ∷ put_number n xs))
    (ne_eqb n m (λ e. omega (arith, e, h)))

-- a number below all is put in front
put_below : (n m : ℕ) (flags : List Bool) → n < m
    → put_number n (numbers_from m flags) ≡ n ∷ numbers_from m flags
put_below n m [] h = refl
put_below n m (true ∷ flags) h =
    ap (λ (b : Bool). cond b (n ∷ m ∷ numbers_from (m + 1) flags) (cond (eqb n m) (m ∷ numbers_from
    (m + 1) flags) (m ∷ put_number n (numbers_from (m + 1) flags)))) (lt-ltb n m h)
put_below n m (false ∷ flags) h = put_below n (m + 1) flags (omega arith)

-- a flag that is raised puts its number
pub put_raised : (n i : ℕ) (flags : List Bool) → i < length flags
    → numbers_from n (set flags i true) ≡ put_number (n + i) (numbers_from n flags)
put_raised n i [] h = absurd (omega arith)
put_raised n zero (true ∷ flags) h =
    sym (ap (λ (k : ℕ). put_number k (n ∷ numbers_from (n + 1) flags)) (add-zero n) ∙ put_same n _)
put_raised n zero (false ∷ flags) h = sym (ap (λ (k : ℕ). put_number k (numbers_from (n + 1) flags))
    (add-zero n) ∙ put_below n (n + 1) flags (omega arith))
put_raised n (suc i) (true ∷ flags) h =
    let e : n + 1 + i ≡ n + suc i = omega arith in
    ap (λ (xs : List ℕ). n ∷ xs) (put_raised (n + 1) i flags (omega arith)
    ∙ ap (λ (k : ℕ). put_number k (numbers_from (n + 1) flags)) e)
    ∙ sym (put_above (n + suc i) n (numbers_from (n + 1) flags) (omega arith))
put_raised n (suc i) (false ∷ flags) h =
    let e : n + 1 + i ≡ n + suc i = omega arith in
    put_raised (n + 1) i flags (omega arith)
    ∙ ap (λ (k : ℕ). put_number k (numbers_from (n + 1) flags)) e

-- a number below all isn't there
not_below : (k m : ℕ) (flags : List Bool) → k < m → list_any (eqb k) (numbers_from m flags) ≡ false
not_below k m [] h = refl
not_below k m (true ∷ flags) h =
    ap (λ (b : Bool). b || list_any (eqb k) (numbers_from (m + 1) flags))
    (ne_eqb k m (λ e. omega (arith, e, h)))
    ∙ not_below k (m + 1) flags (omega arith)
not_below k m (false ∷ flags) h = not_below k (m + 1) flags (omega arith)

-- a number is there where its flag is raised
pub is_raised : (n i : ℕ) (flags : List Bool)
    → list_any (eqb (n + i)) (numbers_from n flags) ≡ get_or flags i false
is_raised n i [] = refl
is_raised n zero (true ∷ flags) = ap (λ (b : Bool). b
    || list_any (eqb (n + 0)) (numbers_from (n + 1) flags)) (eq-eqb (n + 0) n (add-zero n))
is_raised n zero (false ∷ flags) = not_below (n + 0) (n + 1) flags (omega arith)
is_raised n (suc i) (true ∷ flags) =
    let e : n + 1 + i ≡ n + suc i = omega arith in
    ap (λ (b : Bool). b || list_any (eqb (n + suc i)) (numbers_from (n + 1) flags))
    (ne_eqb (n + suc i) n (λ e. omega (arith, e)))
    ∙ ap (λ (k : ℕ). list_any (eqb k) (numbers_from (n + 1) flags)) (sym e)
    ∙ is_raised (n + 1) i flags
is_raised n (suc i) (false ∷ flags) =
    let e : n + 1 + i ≡ n + suc i = omega arith in
    ap (λ (k : ℕ). list_any (eqb k) (numbers_from (n + 1) flags)) (sym e)
    ∙ is_raised (n + 1) i flags

-- after the last flag there is none
pub past : (flags : List Bool) (i : ℕ) → length flags ≤ i → get_or flags i false ≡ false
past [] i h = refl
past (b ∷ flags) zero h = absurd (omega arith)
past (b ∷ flags) (suc i) h = past flags i (omega arith)

-- so many numbers, from this one on
abbrev counted : ℕ → ℕ → List ℕ
counted n zero = []
counted n (suc k) = n ∷ counted (n + 1) k

filtered : (p : ℕ → Bool) (n : ℕ) (flags : List Bool) → ((i : ℕ) → p (n + i) ≡ get_or flags i false)
    → filter p (counted n (length flags)) ≡ numbers_from n flags
filtered p n [] h = refl
filtered p n (b ∷ flags) h =
    let first : p n ≡ b = ap p (sym (add-zero n)) ∙ h 0 in
    let later : (i : ℕ) → p (n + 1 + i) ≡ get_or flags i false =
    λ i. ap p (let e : n + 1 + i ≡ n + suc i = omega arith in e) ∙ h (suc i) in
    let rest = filtered p (n + 1) flags later in
    ap (λ (c : Bool). cond c (n ∷ filter p (counted (n + 1) (length flags)))
    (filter p (counted (n + 1) (length flags)))) first
    ∙ ap (λ (xs : List ℕ). cond b (n ∷ xs) xs) rest

pub all_raised : (flags : List Bool) → length flags ≡ 8
    → numbers_from 0 flags ≡ filter (λ r. list_any (eqb r) (numbers_from 0 flags)) routers
all_raised flags h =
    let test : ℕ → Bool = λ r. list_any (eqb r) (numbers_from 0 flags) in
    let same : (i : ℕ) → test (0 + i) ≡ get_or flags i false = λ i. is_raised 0 i flags in
    sym (ap (λ (n : ℕ). filter test (counted 0 n)) (sym h) ∙ filtered test 0 flags same)
