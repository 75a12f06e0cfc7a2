-- What holds of each element of lists under keys, of numbers and of places.
use Rattle.std.proofs.Common.{◌≡◌, ◌<◌, ◌≤◌, ◌+◌, ℕ, suc, zero, Bool, true, false, cond, find, All}
use Rattle.std.proofs.Common.{List, [], ◌∷◌, length, Option, Some, None, IfSome, option_map, refl}
use Rattle.std.proofs.Common.{ap, subst, nat_eq, nat_lt, arith}
use Rattle.std.specs.Prelude.{slice_set}
use Rattle.std.specs.List.{range_with_len, cons_option}
use Rattle.std.proofs.lemmas.List.Elements.{All-nil, All-cons, All-head, All-tail}
use Rattle.txn_types.specs.BySession.{BySession, entry_of}
use Rattle.txn_types.specs.Numbers.{put_number}
use Rattle.txn_types.specs.Order.{same_lsid}
use Rattle.txn_types.specs.declared.node.Lsid.{Lsid}
use Rattle.participant.proofs.Cases.{either}
use Rattle.world_laws.proofs.Naming.{one}

-- what stands after the first key that a test takes
found_by : {K A : Type 0} (R : A → Type 0) (entry : K × A) (more : Option (K × A))
    (test : Bool) (a : A)
    → R entry.1 → (option_map (λ (e : K × A). e.1) more ≡ Some a → R a)
    → option_map (λ (e : K × A). e.1) (cond test (Some entry) more) ≡ Some a → R a
found_by R entry more true a h k e = let is : entry.1 ≡ a = grind arith in subst R is h
found_by R entry more false a h k e = k e

pub found : {K A : Type 0} (R : A → Type 0) (test : K × A → Bool) (entries : List (K × A))
    → All (λ (e : K × A). R e.1) entries
    → (a : A) → option_map (λ (e : K × A). e.1) (find test entries) ≡ Some a → R a
found R test [] h a e = grind arith
found {K = K} {A = A} R test (entry ∷ entries) h a e =
    found_by R entry (find test entries) (test entry) a
    (All-head (λ (e : K × A). R e.1) entry entries h)
    (found R test entries (All-tail (λ (e : K × A). R e.1) entry entries h) a) e

-- Of sessions.

pub entry_has : {A : Type 0} (R : A → Type 0) (lsid : Lsid) (entries : BySession A)
    → All (λ (e : Lsid × A). R e.1) entries → (a : A) → entry_of lsid entries ≡ Some a → R a
entry_has {A = A} R lsid entries h a e =
    found R (λ (e : Lsid × A). same_lsid lsid e.0) entries h a e

-- Of numbers.

pub numbers_put : (P : ℕ → Type 0) (n : ℕ) (ms : List ℕ) → P n → All P ms → All P (put_number n ms)
numbers_put P n [] this h = one P n this
numbers_put P n (m ∷ ms) this h =
    either (nat_lt n m) (All P) _ _ (All-cons P n (m ∷ ms) this h)
    (either (nat_eq n m) (All P) _ _ h (All-cons P m (put_number n ms) (All-head P m ms h)
    (numbers_put P n ms this (All-tail P m ms h))))

pub option_put : {A : Type 0} (P : A → Type 0) (o : Option A) (xs : List A) → IfSome o P → All P xs
    → All P (cons_option o xs)
option_put P None xs h k = k
option_put P (Some x) xs h k = All-cons P x xs h k

-- numbers from one on
pub range_all : (P : ℕ → Type 0) (bound from count : ℕ) → from + count ≤ bound
    → ((n : ℕ) → n < bound → P n) → All P (range_with_len from count)
range_all P bound from zero fits h = All-nil P
range_all P bound from (suc count) fits h =
    All-cons P from (range_with_len (from + 1) count) (h from (omega (arith, fits)))
    (range_all P bound (from + 1) count (omega (arith, fits)) h)

-- Of places.

pub set_length : {A : Type 0} (xs : List A) (i : ℕ) (y : A) → length (slice_set xs i y) ≡ length xs
set_length [] i y = refl
set_length (a ∷ xs) zero y = refl
set_length (a ∷ xs) (suc i) y = ap suc (set_length xs i y)
