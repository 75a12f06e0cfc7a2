-- Lists in order, and what is in a list that was mapped or filtered.
use Rattle.std.proofs.Common.{◌≡◌, ◌⊎◌, inl, inr, ◌<◌, ℕ, zero, suc, nat_eq, Bool, true, false}
use Rattle.std.proofs.Common.{get_or, All, List, [], ◌∷◌, ◌++◌, map, filter, Some, None, refl, sym}
use Rattle.std.proofs.Common.{ap, subst, ◌∙◌, arith}
use Rattle.std.specs.Prelude.{Contains, AllPairs, slice_get, slice_set}
use Rattle.std.proofs.lemmas.Bool.{eq-eqb}
use Rattle.std.proofs.lemmas.List.Elements.{All-nil, All-append, All-weaker, All-map, All-filter}
use Rattle.std.proofs.lemmas.List.Elements.{All-contains, All-contains_itself}
use Rattle.std.proofs.lemmas.List.Elements.{Contains-append_cases, filter_passes}
use Rattle.std.proofs.lemmas.List.Kept.{AllPairs-cons}
use Rattle.participant.proofs.Cases.{either}
use Rattle.answer_laws.proofs.Lists.{has_first, has_more, nat_is}

-- What is in a list.

pub none_there : {A : Type 0} {X : Type 0} (x : A) → Contains [] x → X
none_there x h = absurd (omega (arith, h.1))

has_one : {A : Type 0} (x y : A) (k : ℕ) → k < 1 → get_or (x ∷ []) k y ≡ y → y ≡ x
has_one x y k h e =
    let zero : k ≡ 0 = omega (arith, h) in sym (subst (λ (n : ℕ). get_or (x ∷ []) n y ≡ y) zero e)

pub has_cases : {A : Type 0} (x : A) (xs : List A) (y : A) → Contains (x ∷ xs) y
    → (y ≡ x) ⊎ Contains xs y
has_cases x xs y h =
    elim (Contains-append_cases (x ∷ []) xs y h) [
      | inl w ↦ inl (has_one x y w.0 w.1 w.2)
      | inr w ↦ inr w
    ]

pub only_one : {A : Type 0} (x y : A) → Contains (x ∷ []) y → y ≡ x
only_one x y h = has_one x y h.0 h.1 h.2

pub contained : {A : Type 0} (P : A → Type 0) (xs : List A) → ((x : A) → Contains xs x → P x)
    → All P xs
contained P xs f = All-weaker (Contains xs) P f xs (All-contains_itself xs)

pub has_map : {A B : Type 0} (f : A → B) (xs : List A) (x : A) → Contains xs x
    → Contains (map f xs) (f x)
has_map f [] x h = none_there x h
has_map f (z ∷ xs) x h =
    elim (has_cases z xs x h) [
      | inl e ↦ subst (λ (y : _). Contains (map f (z ∷ xs)) (f y)) (sym e)
          (has_first (f z) (map f xs))
      | inr k ↦ has_more (f z) (map f xs) (f x) (has_map f xs x k)
    ]

pub map_has : {A B : Type 0} (f : A → B) (xs : List A) (y : B) → Contains (map f xs) y
    → (x : A) × Contains xs x × (y ≡ f x)
map_has f xs y h =
    let P = λ (y : _). (x : _) × Contains xs x × (y ≡ f x) in
    All-contains P (map f xs) y (All-map P f xs (contained (λ x. P (f x)) xs (λ x c. (x, c, refl))))
    h

kept_on : {A : Type 0} (p : A → Bool) (z : A) (xs : List A) (x : A) (b : Bool) → p z ≡ b
    → Contains (filter p xs) x → Contains (filter p (z ∷ xs)) x
kept_on p z xs x true e k = rw e (has_more z (filter p xs) x k)
kept_on p z xs x false e k = rw e k

pub has_filter : {A : Type 0} (p : A → Bool) (xs : List A) (x : A) → p x ≡ true → Contains xs x
    → Contains (filter p xs) x
has_filter p [] x is h = none_there x h
has_filter p (z ∷ xs) x is h =
    elim (has_cases z xs x h) [
      | inl e ↦
          let here : p z ≡ true = ap p (sym e) ∙ is in
          rw here (subst (λ (y : _). Contains (z ∷ filter p xs) y) (sym e)
          (has_first z (filter p xs)))
      | inr k ↦ kept_on p z xs x (p z) refl (has_filter p xs x is k)
    ]

pub filter_has : {A : Type 0} (p : A → Bool) (xs : List A) (x : A) → Contains (filter p xs) x
    → Contains xs x × (p x ≡ true)
filter_has p xs x h = (
  All-contains (Contains xs) (filter p xs) x
      (All-filter p (Contains xs) xs (All-contains_itself xs)) h,
  All-contains (λ y. p y ≡ true) (filter p xs) x (filter_passes p xs) h,
)

-- Lists in order: each element stands so to each later one.

abbrev pub InOrder : {A : Type 0} → (A → A → Type 0) → List A → Type 0
InOrder R [] = Unit {0}
InOrder R (x ∷ xs) = All (R x) xs × InOrder R xs

pub order_append : {A : Type 0} (R : A → A → Type 0) (xs ys : List A) → InOrder R xs → InOrder R ys
    → ((x y : A) → Contains xs x → Contains ys y → R x y) → InOrder R (xs ++ ys)
order_append R [] ys h k m = k
order_append R (x ∷ xs) ys h k m = (
  All-append (R x) xs ys h.0 (contained (R x) ys (λ y c. m x y (has_first x xs) c)),
  order_append R xs ys h.1 k (λ a b c d. m a b (has_more x xs a c) d),
)

pub order_more : {A : Type 0} (R : A → A → Type 0) (xs : List A) (y : A) → InOrder R xs
    → ((x : A) → Contains xs x → R x y) → InOrder R (xs ++ y ∷ [])
order_more R xs y h k =
    order_append R xs (y ∷ []) h (All-nil (R y), tt)
    (λ a b c d. subst (R a) (sym (only_one y b d)) (k a c))

pub order_filter : {A : Type 0} (R : A → A → Type 0) (p : A → Bool) (xs : List A) → InOrder R xs
    → InOrder R (filter p xs)
order_filter R p [] h = tt
order_filter R p (x ∷ xs) h =
    either (p x) (InOrder R) (x ∷ filter p xs) (filter p xs)
    (All-filter p (R x) xs h.0, order_filter R p xs h.1) (order_filter R p xs h.1)

pub order_map : {A B : Type 0} (R : B → B → Type 0) (S : A → A → Type 0) (f : A → B)
    → ((x y : A) → S x y → R (f x) (f y)) → (xs : List A) → InOrder S xs → InOrder R (map f xs)
order_map R S f m [] h = tt
order_map R S f m (x ∷ xs) h = (
  All-map (R (f x)) f xs (All-weaker (S x) (λ y. R (f x) (f y)) (m x) xs h.0),
  order_map R S f m xs h.1,
)

two_by : {A : Type 0} (R : A → A → Type 0) (z : A) (xs : List A) (x y : A) → All (R z) xs
    → (Contains xs x → Contains xs y → (x ≡ y) ⊎ (R x y ⊎ R y x))
    → (x ≡ z) ⊎ Contains xs x → (y ≡ z) ⊎ Contains xs y → (x ≡ y) ⊎ (R x y ⊎ R y x)
two_by R z xs x y h more (inl e) (inl f) = inl (e ∙ sym f)
two_by R z xs x y h more (inl e) (inr f) =
    inr (inl (subst (λ (w : _). R w y) (sym e) (All-contains (R z) xs y h f)))
two_by R z xs x y h more (inr e) (inl f) =
    inr (inr (subst (λ (w : _). R w x) (sym f) (All-contains (R z) xs x h e)))
two_by R z xs x y h more (inr e) (inr f) = more e f

-- of two elements, they are one, or one stands before the other
pub order_two : {A : Type 0} (R : A → A → Type 0) (xs : List A) (x y : A) → InOrder R xs
    → Contains xs x → Contains xs y → (x ≡ y) ⊎ (R x y ⊎ R y x)
order_two R [] x y h a b = none_there x a
order_two R (z ∷ xs) x y h a b = two_by R z xs x y h.0 (order_two R xs x y h.1) (has_cases z xs x a)
    (has_cases z xs y b)

pub order_pairs : {A : Type 0} (R : A → A → Type 0) (xs : List A) → InOrder R xs → AllPairs R xs
order_pairs R [] h = λ i j d a b. absurd (omega (arith, b))
order_pairs R (x ∷ xs) h = AllPairs-cons R x xs h.0 (order_pairs R xs h.1)

-- A list with one place set.

pub set_cases : {A : Type 0} (xs : List A) (i j : ℕ) (y x : A)
    → slice_get (slice_set xs i y) j ≡ Some x
    → ((j ≡ i) × (x ≡ y)) ⊎ ((j ≡ i → ⊥) × (slice_get xs j ≡ Some x))
set_cases [] i j y x e = let no : None ≡ Some x = e in grind (arith, no)
set_cases (a ∷ xs) zero zero y x e = inl (refl, grind arith)
set_cases (a ∷ xs) zero (suc j) y x e = inr (λ z. absurd (omega (arith, z)), e)
set_cases (a ∷ xs) (suc i) zero y x e = inr (λ z. absurd (omega (arith, z)), e)
set_cases (a ∷ xs) (suc i) (suc j) y x e =
    elim (set_cases xs i j y x e) [
      | inl h ↦ inl (ap suc h.0, h.1)
      | inr h ↦ inr (λ z. h.0 (omega (arith, z)), h.1)
    ]

pub not_same : (a b : ℕ) → (a ≡ b → ⊥) → nat_eq a b ≡ false
not_same a b h = by (nat_eq a b) refl
  where
    by : (test : Bool) → nat_eq a b ≡ test → test ≡ false
    by true e = absurd (h (nat_is a b e))
    by false e = refl

pub same_nat : (a : ℕ) → nat_eq a a ≡ true
same_nat a = eq-eqb a a refl
