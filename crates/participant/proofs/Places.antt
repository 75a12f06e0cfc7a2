-- A test of the elements of a list, place by place.
use Rattle.std.proofs.Common.{◌≡◌, ◌<◌, ◌≤◌, fold, min, ◌||◌, ℕ, zero, suc, Bool, false, List, []}
use Rattle.std.proofs.Common.{◌∷◌, Option, Some, None, slice_get, length, drop, refl, arith}
use Rattle.std.specs.List.{list_any, filter_map, cons_option}
use Rattle.participant.specs.Part.{least}
use Rattle.participant.specs.Stands.{lesser}

-- the element at a place, and those after it
pub any_at : {A : Type 0} (test : A → Bool) (xs : List A) (i : ℕ)
    → i < length xs → (e : A) × (slice_get xs i ≡ Some e)
    × (list_any test (drop i xs) ≡ (test e || list_any test (drop (suc i) xs)))
any_at test [] i below = absurd (omega (arith, below))
any_at test (x ∷ xs) zero below = (x, refl, refl)
any_at test (x ∷ xs) (suc i) below = any_at test xs i (omega (arith, below))

pub none_past : {A : Type 0} (test : A → Bool) (xs : List A) (i : ℕ) → length xs ≤ i
    → list_any test (drop i xs) ≡ false
none_past test [] zero past = refl
none_past test [] (suc i) past = refl
none_past test (x ∷ xs) zero past = absurd (omega (arith, past))
none_past test (x ∷ xs) (suc i) past = none_past test xs i (omega (arith, past))

-- what a test finds there, and in those after it
pub kept_at : {A B : Type 0} (f : A → Option B) (xs : List A) (i : ℕ)
    → i < length xs → (e : A) × (slice_get xs i ≡ Some e)
    × (filter_map f (drop i xs) ≡ cons_option (f e) (filter_map f (drop (suc i) xs)))
kept_at f [] i below = absurd (omega (arith, below))
kept_at f (x ∷ xs) zero below = (x, refl, refl)
kept_at f (x ∷ xs) (suc i) below = kept_at f xs i (omega (arith, below))

pub nothing_past : {A B : Type 0} (f : A → Option B) (xs : List A) (i : ℕ) → length xs ≤ i
    → filter_map f (drop i xs) ≡ []
nothing_past f [] zero past = refl
nothing_past f [] (suc i) past = refl
nothing_past f (x ∷ xs) zero past = absurd (omega (arith, past))
nothing_past f (x ∷ xs) (suc i) past = nothing_past f xs i (omega (arith, past))

-- the least of some numbers and of others
abbrev pub least_from : Option ℕ → List ℕ → Option ℕ
least_from None numbers = least numbers
least_from (Some n) numbers = Some (fold min n numbers)

pub one_more : (o x : Option ℕ) (numbers : List ℕ)
    → least_from (lesser o x) numbers ≡ least_from o (cons_option x numbers)
one_more None None numbers = refl
one_more None (Some m) numbers = refl
one_more (Some n) None numbers = refl
one_more (Some n) (Some m) numbers = refl

pub no_more : (o : Option ℕ) → least_from o [] ≡ o
no_more None = refl
no_more (Some n) = refl
