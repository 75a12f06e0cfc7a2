-- Places of lists.
use Rattle.std.proofs.lemmas.List.{length-map}
use Rattle.std.proofs.Common.{◌≡◌, ◌<◌, slice_index_or, insert, remove, Contains, ℕ, zero, suc}
use Rattle.std.proofs.Common.{List, [], ◌∷◌, Option, Some, option_map, unwrap_or, map, refl, ap}
use Rattle.std.proofs.Common.{sym, ◌∙◌, arith, length, slice_get, slice_set}

pub map_set : {A B : Type 0} (f : A → B) (xs : List A) (n : ℕ) (y : A)
    → map f (slice_set xs n y) ≡ slice_set (map f xs) n (f y)
map_set f [] n y = refl
map_set f (x ∷ xs) zero y = refl
map_set f (x ∷ xs) (suc n) y = ap (λ ys. f x ∷ ys) (map_set f xs n y)

pub map_get : {A B : Type 0} (f : A → B) (xs : List A) (n : ℕ) (x : A) → slice_get xs n ≡ Some x
    → slice_get (map f xs) n ≡ Some (f x)
map_get f [] n x is = cc
map_get f (y ∷ ys) zero x is = ap (option_map f) is
map_get f (y ∷ ys) (suc n) x is = map_get f ys n x is

pub set_twice : {A : Type 0} (xs : List A) (n : ℕ) (x y : A)
    → slice_set (slice_set xs n x) n y ≡ slice_set xs n y
set_twice [] n x y = refl
set_twice (z ∷ zs) zero x y = refl
set_twice (z ∷ zs) (suc n) x y = ap (λ ys. z ∷ ys) (set_twice zs n x y)

pub set_same : {A : Type 0} (xs : List A) (n : ℕ) (x : A) → slice_get xs n ≡ Some x
    → slice_set xs n x ≡ xs
set_same [] n x is = refl
set_same {A} (z ∷ zs) zero x is = ap (λ (o : Option A). unwrap_or o z ∷ zs) (sym is)
set_same (z ∷ zs) (suc n) x is = ap (λ ys. z ∷ ys) (set_same zs n x is)

pub set_back : {A : Type 0} (xs : List A) (n : ℕ) (x y : A) → slice_get xs n ≡ Some x
    → slice_set (slice_set xs n y) n x ≡ xs
set_back xs n x y is = set_twice xs n y x ∙ set_same xs n x is

pub set_long : {A : Type 0} (xs : List A) (n : ℕ) (y : A) → length (slice_set xs n y) ≡ length xs
set_long [] n y = refl
set_long (z ∷ zs) zero y = refl
set_long (z ∷ zs) (suc n) y = ap suc (set_long zs n y)

pub set_there : {A : Type 0} (xs : List A) (n : ℕ) (y : A) → n < length xs
    → slice_get (slice_set xs n y) n ≡ Some y
set_there [] n y h = absurd (omega (arith, h))
set_there (z ∷ zs) zero y h = refl
set_there (z ∷ zs) (suc n) y h = set_there zs n y (omega (arith, h))

pub get_within : {A : Type 0} (xs : List A) (n : ℕ) (x : A) → slice_get xs n ≡ Some x
    → n < length xs
get_within [] n x is = cc
get_within (z ∷ zs) zero x is = omega arith
get_within (z ∷ zs) (suc n) x is = let more : n < length zs = get_within zs n x is in
    omega (arith, more)

pub insert_removed : {A : Type 0} (xs : List A) (n : ℕ) (y : A) → n < length xs
    → insert (remove xs n) n y ≡ slice_set xs n y
insert_removed [] n y h = absurd (omega (arith, h))
insert_removed (z ∷ zs) zero y h = refl
insert_removed (z ∷ zs) (suc n) y h = ap (λ ys. z ∷ ys) (insert_removed zs n y (omega (arith, h)))

got_at : {A : Type 0} (xs : List A) (n : ℕ) (x d : A) → slice_get xs n ≡ Some x
    → slice_index_or xs n d ≡ x
got_at [] n x d is = cc
got_at {A} (y ∷ ys) zero x d is = ap (λ (o : Option A). unwrap_or o y) is
got_at (y ∷ ys) (suc n) x d is = got_at ys n x d is

pub has_got : {A : Type 0} (xs : List A) (n : ℕ) (x : A) → slice_get xs n ≡ Some x → Contains xs x
has_got xs n x is = (n, get_within xs n x is, got_at xs n x x is)

pub map_removed : {A B : Type 0} (f : A → B) (xs : List A) (n : ℕ)
    → map f (remove xs n) ≡ remove (map f xs) n
map_removed f [] zero = refl
map_removed f [] (suc n) = refl
map_removed f (z ∷ zs) zero = refl
map_removed f (z ∷ zs) (suc n) = ap (λ ys. f z ∷ ys) (map_removed f zs n)

-- after a write at a place, seen through `f`
pub map_set_at : {A B : Type 0} (f : A → B) (xs : List A) (i n : ℕ) (x : A) (y : B) → i ≡ n
    → f x ≡ y → map f (slice_set xs i x) ≡ slice_set (map f xs) n y
map_set_at f xs i n x y place is = map_set f xs i x
    ∙ ap (λ (k : ℕ). slice_set (map f xs) k (f x)) place ∙ ap (slice_set (map f xs) n) is

pub map_set_there : {A B : Type 0} (f : A → B) (xs : List A) (i n : ℕ) (x : A) (y : B) → i ≡ n
    → n < length xs → f x ≡ y → slice_get (map f (slice_set xs i x)) n ≡ Some y
map_set_there f xs i n x y place within is =
    let long : length (map f xs) ≡ length xs = length-map xs f in
    let there : n < length (map f xs) = omega (arith, long) in
    ap (λ ys. slice_get ys n) (map_set_at f xs i n x y place is) ∙ set_there (map f xs) n y there

pub map_set_over : {A B : Type 0} (f : A → B) (xs : List A) (i n : ℕ) (x : A) (y : B) → i ≡ n
    → slice_set (map f (slice_set xs i x)) n y ≡ slice_set (map f xs) n y
map_set_over f xs i n x y place = ap (λ ys. slice_set ys n y) (map_set_at f xs i n x (f x) place
    refl) ∙ set_twice (map f xs) n (f x) y
