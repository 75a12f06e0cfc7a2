-- What is found in lists, and what holds of each that is in them.
use Rattle.std.proofs.Common.{◌≡◌, Bool, true, false, not, cond, List, [], ◌∷◌, ◌++◌, map, filter}
use Rattle.std.proofs.Common.{find, Option, Some, None, option_map, is_some, IfSome, refl, ap, sym}
use Rattle.std.proofs.Common.{◌&&◌, ◌||◌}
use Rattle.std.specs.List.{cons_option, list_any, AllByRecursion}
use Rattle.shard_image.proofs.Lists.{kept}

-- tests
pub both_true : (a b : Bool) → (a && b) ≡ true → (a ≡ true) × (b ≡ true)
both_true true b h = (refl, h)
both_true false b h = cc

pub not_true : (a : Bool) → not a ≡ true → a ≡ false
not_true true h = cc
not_true false h = refl

pub never : {A : Type 0} (b : Bool) → b ≡ true → b ≡ false → A
never b h k = cc

either_true : (a b : Bool) → b ≡ true → (a || b) ≡ true
either_true true b h = refl
either_true false b h = h

pub first_false : (x y : Bool) → (x || y) ≡ false → x ≡ false
first_false true y h = cc
first_false false y h = refl

pub second_false : (x y : Bool) → (x || y) ≡ false → y ≡ false
second_false true y h = cc
second_false false y h = h

module _ {A : Type 0} (p : A → Bool) where
  passes_case : (x y : A) (xs : List A) (b : Bool) → p x ≡ b → cond b (Some x) (find p xs) ≡ Some y
      → (find p xs ≡ Some y → p y ≡ true) → p y ≡ true
  passes_case x y xs true is h more = let same : x ≡ y = cc in rw (sym same) is
  passes_case x y xs false is h more = more h

  -- what is found passes the test
  pub found_passes : (xs : List A) (y : A) → find p xs ≡ Some y → p y ≡ true
  found_passes [] y h = cc
  found_passes (x ∷ xs) y h = passes_case x y xs (p x) refl h (found_passes xs y)

  holds_case : (P : A → Type 0) (x y : A) (xs : List A) (b : Bool)
      → cond b (Some x) (find p xs) ≡ Some y → P x → (find p xs ≡ Some y → P y) → P y
  holds_case P x y xs true h here more = let same : x ≡ y = cc in rw (sym same) here
  holds_case P x y xs false h here more = more h

  -- and what holds of each holds of it
  pub found_holds : (P : A → Type 0) (xs : List A) (y : A) → AllByRecursion P xs
      → find p xs ≡ Some y → P y
  found_holds P [] y all h = cc
  found_holds P (x ∷ xs) y all h = holds_case P x y xs (p x) h all.0 (found_holds P xs y all.1)

  found_any_case : (q : A → Bool) (x y : A) (xs : List A) (b : Bool)
      → cond b (Some x) (find p xs) ≡ Some y → q y ≡ true
      → (find p xs ≡ Some y → list_any q xs ≡ true) → (q x || list_any q xs) ≡ true
  found_any_case q x y xs true h passes more = let same : x ≡ y = cc in rw (same, passes) refl
  found_any_case q x y xs false h passes more = let rest = more h in
      either_true (q x) (list_any q xs) rest

  pub found_any : (q : A → Bool) (xs : List A) (y : A) → find p xs ≡ Some y → q y ≡ true
      → list_any q xs ≡ true
  found_any q [] y h passes = cc
  found_any q (x ∷ xs) y h passes =
      found_any_case q x y xs (p x) h passes (λ f. found_any q xs y f passes)

  -- none passes
  pub none_of : (xs : List A) → list_any p xs ≡ false → AllByRecursion (λ x. p x ≡ false) xs
  none_of [] h = tt
  none_of (x ∷ xs) h =
      (first_false (p x) (list_any p xs) h, none_of xs (second_false (p x) (list_any p xs) h))

module _ {A B : Type 0} (p : B → Bool) (h : A → B) where
  find_case : (x : A) (xs : List A) (b : Bool)
      → find p (map h xs) ≡ option_map h (find (λ x. p (h x)) xs)
      → cond b (Some (h x)) (find p (map h xs))
      ≡ option_map h (cond b (Some x) (find (λ x. p (h x)) xs))
  find_case x xs true more = refl
  find_case x xs false more = more

  pub find_mapped : (xs : List A) → find p (map h xs) ≡ option_map h (find (λ x. p (h x)) xs)
  find_mapped [] = refl
  find_mapped (x ∷ xs) = find_case x xs (p (h x)) (find_mapped xs)

  pub any_mapped : (xs : List A) → list_any p (map h xs) ≡ list_any (λ x. p (h x)) xs
  any_mapped [] = refl
  any_mapped (x ∷ xs) = ap (λ (b : Bool). p (h x) || b) (any_mapped xs)

-- without those that pass one test, what passes another is found as before
module _ {A : Type 0} (p q : A → Bool) (apart : (x : A) → q x ≡ true → p x ≡ false) where
  kept_case : (x : A) (xs : List A) (b : Bool) → q x ≡ b
      → find p (filter (λ x. not (q x)) xs) ≡ find p xs
      → find p (cond (not b) (x ∷ filter (λ x. not (q x)) xs) (filter (λ x. not (q x)) xs))
      ≡ find p (x ∷ xs)
  kept_case x xs true is more = rw (apart x is) more
  kept_case x xs false is more = ap (cond (p x) (Some x)) more

  pub find_kept : (xs : List A) → find p (filter (λ x. not (q x)) xs) ≡ find p xs
  find_kept [] = refl
  find_kept (x ∷ xs) = kept_case x xs (q x) refl (find_kept xs)

-- what holds of each that is kept
module _ {A : Type 0} (p : A → Bool) (P : A → Type 0) where
  filtered_case : (x : A) (xs : List A) (b : Bool) → P x → AllByRecursion P (filter p xs)
      → AllByRecursion P (cond b (x ∷ filter p xs) (filter p xs))
  filtered_case x xs true here more = (here, more)
  filtered_case x xs false here more = more

  pub each_filtered : (xs : List A) → AllByRecursion P xs → AllByRecursion P (filter p xs)
  each_filtered [] all = tt
  each_filtered (x ∷ xs) all = filtered_case x xs (p x) all.0 (each_filtered xs all.1)

module _ {A : Type 0} (P Q : A → Type 0) where
  pub each_as : (xs : List A) → ((x : A) → P x → Q x) → AllByRecursion P xs → AllByRecursion Q xs
  each_as [] f all = tt
  each_as (x ∷ xs) f all = (f x all.0, each_as xs f all.1)

  pub each_with : (R : A → Type 0) (xs : List A) → ((x : A) → P x → Q x → R x) → AllByRecursion P xs
      → AllByRecursion Q xs → AllByRecursion R xs
  each_with R [] f p q = tt
  each_with R (x ∷ xs) f p q = (f x p.0 q.0, each_with R xs f p.1 q.1)

pub each_append : {A : Type 0} (P : A → Type 0) (xs : List A) (x : A) → AllByRecursion P xs → P x
    → AllByRecursion P (xs ++ x ∷ [])
each_append P [] x all here = (here, tt)
each_append P (y ∷ xs) x all here = (all.0, each_append P xs x all.1 here)

pub each_of : {A : Type 0} (P : A → Type 0) (xs : List A) → ((x : A) → P x) → AllByRecursion P xs
each_of P [] f = tt
each_of P (x ∷ xs) f = (f x, each_of P xs f)

-- what is kept of rows
module _ {K A B : Type 0} (g : A → Option B) where
  kept_here : (row : K × A) (rows : List (K × A)) (o : Option B) (test : K × B → Bool)
      → list_any test (cons_option (option_map (λ b. (row.0, b)) o) (kept g rows)) ≡ false
      → IfSome o (λ b. test (row.0, b) ≡ false)
  kept_here row rows None test h = tt
  kept_here row rows (Some b) test h = first_false (test (row.0, b)) (list_any test (kept g rows)) h

  kept_rest : (row : K × A) (rows : List (K × A)) (o : Option B) (test : K × B → Bool)
      → list_any test (cons_option (option_map (λ b. (row.0, b)) o) (kept g rows)) ≡ false
      → list_any test (kept g rows) ≡ false
  kept_rest row rows None test h = h
  kept_rest row rows (Some b) test h =
      second_false (test (row.0, b)) (list_any test (kept g rows)) h

  -- what passes no test among all that is kept passes none in its row
  pub each_kept : (all : List (K × B)) (rows : List (K × A))
      → ((test : K × B → Bool) → list_any test all ≡ false → list_any test (kept g rows) ≡ false)
      → AllByRecursion (λ (row : K × A). (test : K × B → Bool) → list_any test all ≡ false
      → IfSome (g row.1) (λ b. test (row.0, b) ≡ false)) rows
  each_kept all [] sub = tt
  each_kept all (row ∷ rows) sub = (
    λ test none. kept_here row rows (g row.1) test (sub test none),
    each_kept all rows (λ test none. kept_rest row rows (g row.1) test (sub test none)),
  )

  pub kept_mapped : (h : A → A) (rows : List (K × A)) → ((a : A) → g (h a) ≡ g a)
      → kept g (map (λ row. (row.0, h row.1)) rows) ≡ kept g rows
  kept_mapped h [] same = refl
  kept_mapped h (row ∷ rows) same = rw (same row.1) (ap (λ (xs : List (K × B)).
      cons_option (option_map (λ b. (row.0, b)) (g row.1)) xs) (kept_mapped h rows same))

  keys_case : (key : K) (o o' : Option B) (xs ys : List (K × B)) → is_some o' ≡ is_some o
      → map (λ row. row.0) xs ≡ map (λ row. row.0) ys
      → map (λ row. row.0) (cons_option (option_map (λ b. (key, b)) o') xs)
      ≡ map (λ row. row.0) (cons_option (option_map (λ b. (key, b)) o) ys)
  keys_case key None None xs ys is more = more
  keys_case key None (Some b) xs ys is more = cc
  keys_case key (Some b) None xs ys is more = cc
  keys_case key (Some b) (Some c) xs ys is more = ap (λ (ks : List K). key ∷ ks) more

  pub keys_mapped : (h : A → A) (rows : List (K × A))
      → ((a : A) → is_some (g (h a)) ≡ is_some (g a)) → map (λ row.
      row.0) (kept g (map (λ row. (row.0, h row.1)) rows)) ≡ map (λ row. row.0) (kept g rows)
  keys_mapped h [] same = refl
  keys_mapped h (row ∷ rows) same = keys_case row.0 (g row.1) (g (h row.1)) (kept g
      (map (λ row. (row.0, h row.1)) rows)) (kept g rows) (same row.1) (keys_mapped h rows same)
