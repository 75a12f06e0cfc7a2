-- The keys of lists by rising key, after what is put there.
use Rattle.std.proofs.Common.{◌≡◌, List, [], ◌∷◌, Some, None, map, refl, ap, ◌∙◌, sym}
use Rattle.std.specs.Map.{lookup}
use Rattle.std.specs.BTreeMap.{is_at}
use Rattle.std.specs.Cmp.{IsTotalOrder}
use Rattle.std.specs.declared.cmp.Ordering.{Ordering}
use Rattle.std.specs.declared.cmp.Ordering.TheVariants.{Less, Equal, Greater}
use Rattle.std.proofs.lemmas.Map.Lookups.{CmpEqualImpliesEq}
use Rattle.txn_semantics.specs.Keyed.{put, taken_out, laid, AllAbove, Rises}
use Rattle.txn_semantics.proofs.Laying.{cmp_self}
use Rattle.version_store.proofs.Keyed.{AllOver, put_in_front, put_here, put_before, put_behind}
use Rattle.version_store.proofs.Keyed.{passed, found_here, same_above}

-- keys, with one put among them
abbrev pub into : {K : Type 0} → (K → K → Ordering) → K → List K → List K
into cmp key [] = key ∷ []
into cmp key (other ∷ others) = elim (cmp key other)
    [ Less ↦ key ∷ other ∷ others | Equal ↦ key ∷ others | Greater ↦ other ∷ into cmp key others ]

-- and several, one after the other
abbrev pub all_into : {K : Type 0} → (K → K → Ordering) → List K → List K → List K
all_into cmp [] others = others
all_into cmp (key ∷ keys) others = all_into cmp keys (into cmp key others)

-- keys that rise
abbrev pub Ascend : {K : Type 0} → (K → K → Ordering) → List K → Type 0
Ascend cmp [] = Unit {0}
Ascend cmp (key ∷ keys) = AllOver cmp key keys × Ascend cmp keys

module _ {K : Type 0} (cmp : K → K → Ordering) where
  keys_put_case : {A : Type 0} (key : K) (a : A) (row : K × A) (rows : List (K × A)) (o : Ordering)
      → map (λ (row : K × A). row.0) (put cmp key a rows)
      ≡ into cmp key (map (λ (row : K × A). row.0) rows)
      → map (λ (row : K × A). row.0) (elim o [
        | Less ↦ (key, a) ∷ row ∷ rows
        | Equal ↦ (key, a) ∷ rows
        | Greater ↦ row ∷ put cmp key a rows
      ])
      ≡ elim o [
        | Less ↦ key ∷ row.0 ∷ map (λ (row : K × A). row.0) rows
        | Equal ↦ key ∷ map (λ (row : K × A). row.0) rows
        | Greater ↦ row.0 ∷ into cmp key (map (λ (row : K × A). row.0) rows)
      ]
  keys_put_case key a row rows Less more = refl
  keys_put_case key a row rows Equal more = refl
  keys_put_case key a row rows Greater more = ap (λ (keys : List K). row.0 ∷ keys) more

  pub keys_put : {A : Type 0} (key : K) (a : A) (rows : List (K × A)) → map (λ (row : K × A).
      row.0) (put cmp key a rows) ≡ into cmp key (map (λ (row : K × A). row.0) rows)
  keys_put key a [] = refl
  keys_put key a (row ∷ rows) = keys_put_case key a row rows (cmp key row.0) (keys_put key a rows)

  pub keys_laid : {A : Type 0} (rows others : List (K × A))
      → map (λ (row : K × A). row.0) (laid cmp rows others)
      ≡ all_into cmp (map (λ (row : K × A). row.0) others) (map (λ (row : K × A). row.0) rows)
  keys_laid rows [] = refl
  keys_laid {A} rows (other ∷ others) =
      keys_laid (put cmp other.0 other.1 rows) others
      ∙ ap (all_into cmp (map (λ (row : K × A). row.0) others)) (keys_put other.0 other.1 rows)

  over_above : {A : Type 0} (low : K) (rows : List (K × A)) → AllAbove cmp low rows
      → AllOver cmp low (map (λ (row : K × A). row.0) rows)
  over_above low [] above = tt
  over_above low (row ∷ rows) above = (above.0, over_above low rows above.1)

  pub ascend_keys : {A : Type 0} (rows : List (K × A)) → Rises cmp rows
      → Ascend cmp (map (λ (row : K × A). row.0) rows)
  ascend_keys [] r = tt
  ascend_keys (row ∷ rows) r = (over_above row.0 rows r.0, ascend_keys rows r.1)

  -- things under keys that rise
  above_over : {X A : Type 0} (key : X → K) (f : X → A) (low : K) (xs : List X)
      → AllOver cmp low (map key xs)
      → AllAbove cmp low (map (λ x. let row : K × A = (key x, f x) in row) xs)
  above_over key f low [] over = tt
  above_over key f low (x ∷ xs) over = (over.0, above_over key f low xs over.1)

  pub rises_under : {X A : Type 0} (key : X → K) (f : X → A) (xs : List X) → Ascend cmp (map key xs)
      → Rises cmp (map (λ x. let row : K × A = (key x, f x) in row) xs)
  rises_under key f [] up = tt
  rises_under key f (x ∷ xs) up = (above_over key f (key x) xs up.0, rises_under key f xs up.1)

module _ {K A : Type 0} (cmp : K → K → Ordering) (total : IsTotalOrder cmp)
    (exact : CmpEqualImpliesEq cmp) where
  -- what is put where something was taken out
  put_taken_case : (key : K) (a : A) (row : K × A) (rows : List (K × A)) (o : Ordering)
      → cmp key row.0 ≡ o → Rises cmp (row ∷ rows)
      → put cmp key a (taken_out cmp key rows) ≡ put cmp key a rows
      → put cmp key a (elim o
      [ Less ↦ row ∷ rows | Equal ↦ rows | Greater ↦ row ∷ taken_out cmp key rows ])
      ≡ put cmp key a (row ∷ rows)
  put_taken_case key a row rows Less is r more = refl
  put_taken_case key a row rows Equal is r more = put_in_front cmp key a rows (same_above cmp total
      exact key row rows is r) ∙ sym (put_here cmp key a row rows is)
  put_taken_case key a row rows Greater is r more = put_behind cmp key a row (taken_out cmp key
      rows) is ∙ ap (λ (xs : List (K × A)). row ∷ xs) more ∙ sym (put_behind cmp key a row rows is)

  pub put_taken : (key : K) (a : A) (rows : List (K × A)) → Rises cmp rows
      → put cmp key a (taken_out cmp key rows) ≡ put cmp key a rows
  put_taken key a [] r = refl
  put_taken key a (row ∷ rows) r =
      put_taken_case key a row rows (cmp key row.0) refl r (put_taken key a rows r.1)

  -- what was put where nothing stood, and is taken out again
  out : (key : K) (row : K × A) (rows : List (K × A)) (o : Ordering)
      → cmp key row.0 ≡ o → taken_out cmp key (row ∷ rows)
      ≡ elim o [ Less ↦ row ∷ rows | Equal ↦ rows | Greater ↦ row ∷ taken_out cmp key rows ]
  out key row rows o is = ap (λ (p : Ordering).
      elim p [ Less ↦ row ∷ rows | Equal ↦ rows | Greater ↦ row ∷ taken_out cmp key rows ]) is

  taken_put_case : (key : K) (a : A) (row : K × A) (rows : List (K × A)) (o : Ordering)
      → cmp key row.0 ≡ o → lookup (is_at (cmp key)) (row ∷ rows) ≡ None
      → (lookup (is_at (cmp key)) rows ≡ None → taken_out cmp key (put cmp key a rows) ≡ rows)
      → taken_out cmp key (put cmp key a (row ∷ rows)) ≡ row ∷ rows
  taken_put_case key a row rows Less is none more = ap (taken_out cmp key) (put_before cmp key a row
      rows is) ∙ out key (key, a) (row ∷ rows) Equal (cmp_self cmp total exact key)
  taken_put_case key a row rows Equal is none more = let wrong : Some row.1 ≡ None =
      sym (found_here cmp key row rows is) ∙ none in cc
  taken_put_case key a row rows Greater is none more =
      ap (taken_out cmp key) (put_behind cmp key a row rows is)
      ∙ out key row (put cmp key a rows) Greater is ∙ ap (λ (xs : List (K × A)). row
      ∷ xs) (more (sym (passed cmp key row rows Greater is refl) ∙ none))

  pub taken_put : (key : K) (a : A) (rows : List (K × A)) → lookup (is_at (cmp key)) rows ≡ None
      → taken_out cmp key (put cmp key a rows) ≡ rows
  taken_put key a [] none = out key (key, a) [] Equal (cmp_self cmp total exact key)
  taken_put key a (row ∷ rows) none =
      taken_put_case key a row rows (cmp key row.0) refl none (taken_put key a rows)
