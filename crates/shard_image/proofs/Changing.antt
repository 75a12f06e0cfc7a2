-- A store of versions in which one key is changed: a write of a transaction is such a change.
use Rattle.std.proofs.Common.{◌≡◌, true, cond, List, [], ◌∷◌, find, Option, Some, None, option_map}
use Rattle.std.proofs.Common.{unwrap_or, refl, ap, sym, ◌∙◌}
use Rattle.std.specs.List.{filter_map, cons_option, AllByRecursion}
use Rattle.std.specs.Ordering.{is_eq}
use Rattle.std.specs.declared.cmp.Ordering.{Ordering}
use Rattle.std.specs.declared.cmp.Ordering.TheVariants.{Less, Equal, Greater}
use Rattle.std.specs.Cmp.{IsTotalOrder}
use Rattle.std.proofs.lemmas.Map.Lookups.{CmpEqualImpliesEq}
use Rattle.txn_semantics.specs.Keyed.{put, AllAbove, Rises}
use Rattle.txn_semantics.proofs.Laying.{above_trans}

pub is_equal : (o : Ordering) → is_eq o ≡ true → o ≡ Equal
is_equal Less h = cc
is_equal Equal h = refl
is_equal Greater h = cc

module _ {K A : Type 0} (cmp : K → K → Ordering) where
  -- what stands under a key, or this where nothing does
  abbrev pub under_key : A → List (K × A) → K → A
  under_key none rows key =
      unwrap_or (option_map (λ row. row.1) (find (λ row. is_eq (cmp key row.0)) rows)) none

  -- with what is made of what stands under a key
  abbrev pub changed_at : K → (A → A) → A → List (K × A) → List (K × A)
  changed_at key f none [] = (key, f none) ∷ []
  changed_at key f none (row ∷ rows) = elim (cmp key row.0) [
    | Less ↦ (key, f none) ∷ row ∷ rows
    | Equal ↦ (key, f row.1) ∷ rows
    | Greater ↦ row ∷ changed_at key f none rows
  ]

  none_above : (key : K) (rows : List (K × A)) → AllAbove cmp key rows
      → find (λ row. is_eq (cmp key row.0)) rows ≡ None
  none_above key [] h = refl
  none_above key (row ∷ rows) h = rw h.0 (none_above key rows h.1)

module _ {K A : Type 0} (cmp : K → K → Ordering) (total : IsTotalOrder cmp)
    (exact : CmpEqualImpliesEq cmp) (none : A) where
  abbrev found_by : K → (K × A) → List (K × A) → Ordering → A
  found_by key row rows o = unwrap_or (option_map (λ row. row.1)
      (cond (is_eq o) (Some row) (find (λ row. is_eq (cmp key row.0)) rows))) none

  put_case : (key : K) (f : A → A) (a : A) (row : K × A) (rows : List (K × A)) (o : Ordering)
      → cmp key row.0 ≡ o → Rises cmp (row ∷ rows) → found_by key row rows o ≡ a
      → (under_key cmp none rows key ≡ a → put cmp key (f a) rows ≡ changed_at cmp key f none rows)
      → ◌≡◌ {A = List (K × A)} (elim o [
        | Less ↦ (key, f a) ∷ row ∷ rows
        | Equal ↦ (key, f a) ∷ rows
        | Greater ↦ row ∷ put cmp key (f a) rows
      ])
      (elim o [
        | Less ↦ (key, f none) ∷ row ∷ rows
        | Equal ↦ (key, f row.1) ∷ rows
        | Greater ↦ row ∷ changed_at cmp key f none rows
      ])
  put_case key f a row rows Less is r found more =
      let nothing = none_above cmp key rows (above_trans cmp total exact key row.0 rows is r.0) in
      let same : none ≡ a = ap (λ (found : Option (K × A)).
      unwrap_or (option_map (λ row. row.1) found) none) (sym nothing) ∙ found in
      ap (λ (x : A). (key, f x) ∷ row ∷ rows) (sym same)
  put_case key f a row rows Equal is r found more = ap (λ (x : A). (key, f x) ∷ rows) (sym found)
  put_case key f a row rows Greater is r found more =
      ap (λ (xs : List (K × A)). row ∷ xs) (more found)

  put_at : (key : K) (f : A → A) (a : A) (rows : List (K × A)) → Rises cmp rows
      → under_key cmp none rows key ≡ a → put cmp key (f a) rows ≡ changed_at cmp key f none rows
  put_at key f a [] r found = ap (λ (x : A). (key, f x) ∷ []) (sym found)
  put_at key f a (row ∷ rows) r found =
      put_case key f a row rows (cmp key row.0) refl r found (put_at key f a rows r.1)

  pub put_changes : (key : K) (f : A → A) (rows : List (K × A)) → Rises cmp rows
      → put cmp key (f (under_key cmp none rows key)) rows ≡ changed_at cmp key f none rows
  put_changes key f rows r = put_at key f (under_key cmp none rows key) rows r refl

-- what holds of each row
module _ {K A : Type 0} (cmp : K → K → Ordering) (exact : CmpEqualImpliesEq cmp) (none : A)
    (P : K × A → Type 0) where
  each_case : (key : K) (f : A → A) (row : K × A) (rows : List (K × A)) (o : Ordering)
      → cmp key row.0 ≡ o → P (key, f none) → (cmp key row.0 ≡ Equal → P row → P (key, f row.1))
      → AllByRecursion P (row ∷ rows) → AllByRecursion P (changed_at cmp key f none rows)
      → AllByRecursion P (elim o [
        | Less ↦ (key, f none) ∷ row ∷ rows
        | Equal ↦ (key, f row.1) ∷ rows
        | Greater ↦ row ∷ changed_at cmp key f none rows
      ])
  each_case key f row rows Less is new h all more = (new, all)
  each_case key f row rows Equal is new h all more = (h is all.0, all.1)
  each_case key f row rows Greater is new h all more = (all.0, more)

  pub each_changed : (key : K) (f : A → A) (rows : List (K × A)) → P (key, f none)
      → ((row : K × A) → cmp key row.0 ≡ Equal → P row → P (key, f row.1)) → AllByRecursion P rows
      → AllByRecursion P (changed_at cmp key f none rows)
  each_changed key f [] new h all = (new, tt)
  each_changed key f (row ∷ rows) new h all = each_case key f row rows (cmp key row.0) refl new
      (h row) all (each_changed key f rows new h all.1)

-- what is kept of each row, where the change doesn't touch it
module _ {K A B : Type 0} (cmp : K → K → Ordering) (exact : CmpEqualImpliesEq cmp) (none : A)
    (g : A → Option B) where
  abbrev kept_of : List (K × A) → List (K × B)
  kept_of rows = filter_map (λ row. option_map (λ b. (row.0, b)) (g row.1)) rows

  kept_case : (key : K) (f : A → A) (row : K × A) (rows : List (K × A)) (o : Ordering)
      → cmp key row.0 ≡ o → g (f none) ≡ None → ((a : A) → g (f a) ≡ g a)
      → kept_of (changed_at cmp key f none rows) ≡ kept_of rows
      → kept_of (elim o [
        | Less ↦ (key, f none) ∷ row ∷ rows
        | Equal ↦ (key, f row.1) ∷ rows
        | Greater ↦ row ∷ changed_at cmp key f none rows
      ]) ≡ kept_of (row ∷ rows)
  kept_case key f row rows Less is new h more = rw new refl
  kept_case key f row rows Equal is new h more = ap (λ (k : K).
      cons_option (option_map (λ b. (k, b)) (g (f row.1))) (kept_of rows)) (exact key row.0 is)
      ∙ ap (λ (o : Option B). cons_option (option_map (λ b. (row.0, b)) o) (kept_of rows)) (h row.1)
  kept_case key f row rows Greater is new h more =
      ap (λ (xs : List (K × B)). cons_option (option_map (λ b. (row.0, b)) (g row.1)) xs) more

  pub kept_changed : (key : K) (f : A → A) (rows : List (K × A)) → g (f none) ≡ None
      → ((a : A) → g (f a) ≡ g a) → kept_of (changed_at cmp key f none rows) ≡ kept_of rows
  kept_changed key f [] new h = rw new refl
  kept_changed key f (row ∷ rows) new h =
      kept_case key f row rows (cmp key row.0) refl new h (kept_changed key f rows new h)
