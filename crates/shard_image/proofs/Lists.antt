-- Lists that hold one thing under each key: what is put under a key, and what of it is kept.
use Rattle.std.proofs.Common.{◌≡◌, Bool, true, false, cond, List, [], ◌∷◌, map, Option, Some, None}
use Rattle.std.proofs.Common.{option_map, refl, ap, sym, subst, ◌∙◌}
use Rattle.std.specs.List.{filter_map, cons_option}
use Rattle.std.specs.declared.cmp.Ordering.{Ordering}
use Rattle.std.specs.declared.cmp.Ordering.TheVariants.{Less, Equal, Greater}
use Rattle.std.specs.Cmp.{IsTotalOrder}
use Rattle.std.proofs.lemmas.Map.Lookups.{CmpEqualImpliesEq}
use Rattle.txn_types.specs.BySession.{BySession, with_entry}
use Rattle.txn_types.specs.Order.{same_lsid}
use Rattle.txn_types.specs.declared.node.Lsid.{Lsid}
use Rattle.txn_semantics.specs.Keyed.{put, taken_out, AllAbove, Rises}
use Rattle.txn_semantics.proofs.Laying.{above_trans}

-- each thing as something else
abbrev pub valued : {K A B : Type 0} → (A → B) → List (K × A) → List (K × B)
valued f rows = map (λ row. (row.0, f row.1)) rows

-- what something can be made of
abbrev pub kept : {K A B : Type 0} → (A → Option B) → List (K × A) → List (K × B)
kept g rows = filter_map (λ row. option_map (λ b. (row.0, b)) (g row.1)) rows

module _ {K A B : Type 0} (cmp : K → K → Ordering) (f : A → B) where
  valued_put_case : (key : K) (a : A) (row : K × A) (rows : List (K × A)) (o : Ordering)
      → valued f (put cmp key a rows) ≡ put cmp key (f a) (valued f rows)
      → valued f (elim o [
        | Less ↦ (key, a) ∷ row ∷ rows
        | Equal ↦ (key, a) ∷ rows
        | Greater ↦ row ∷ put cmp key a rows
      ])
      ≡ elim o [
        | Less ↦ (key, f a) ∷ (row.0, f row.1) ∷ valued f rows
        | Equal ↦ (key, f a) ∷ valued f rows
        | Greater ↦ (row.0, f row.1) ∷ put cmp key (f a) (valued f rows)
      ]
  valued_put_case key a row rows Less more = refl
  valued_put_case key a row rows Equal more = refl
  valued_put_case key a row rows Greater more =
      ap (λ (xs : List (K × B)). (row.0, f row.1) ∷ xs) more

  pub valued_put : (key : K) (a : A) (rows : List (K × A))
      → valued f (put cmp key a rows) ≡ put cmp key (f a) (valued f rows)
  valued_put key a [] = refl
  valued_put key a (row ∷ rows) =
      valued_put_case key a row rows (cmp key row.0) (valued_put key a rows)

  valued_out_case : (key : K) (row : K × A) (rows : List (K × A)) (o : Ordering)
      → valued f (taken_out cmp key rows) ≡ taken_out cmp key (valued f rows)
      → valued f
      (elim o [ Less ↦ row ∷ rows | Equal ↦ rows | Greater ↦ row ∷ taken_out cmp key rows ])
      ≡ elim o [
        | Less ↦ (row.0, f row.1) ∷ valued f rows
        | Equal ↦ valued f rows
        | Greater ↦ (row.0, f row.1) ∷ taken_out cmp key (valued f rows)
      ]
  valued_out_case key row rows Less more = refl
  valued_out_case key row rows Equal more = refl
  valued_out_case key row rows Greater more = ap (λ (xs : List (K × B)). (row.0, f row.1) ∷ xs) more

  pub valued_out : (key : K) (rows : List (K × A))
      → valued f (taken_out cmp key rows) ≡ taken_out cmp key (valued f rows)
  valued_out key [] = refl
  valued_out key (row ∷ rows) = valued_out_case key row rows (cmp key row.0) (valued_out key rows)

  above_valued : (key : K) (rows : List (K × A)) → AllAbove cmp key rows
      → AllAbove cmp key (valued f rows)
  above_valued key [] h = tt
  above_valued key (row ∷ rows) h = (h.0, above_valued key rows h.1)

  pub rises_valued : (rows : List (K × A)) → Rises cmp rows → Rises cmp (valued f rows)
  rises_valued [] h = tt
  rises_valued (row ∷ rows) h = (above_valued row.0 rows h.0, rises_valued rows h.1)

-- by session
module _ {A B : Type 0} (f : A → B) where
  entry_case : (lsid : Lsid) (a : A) (entry : Lsid × A) (entries : BySession A) (test : Bool)
      → valued f (with_entry lsid a entries) ≡ with_entry lsid (f a) (valued f entries)
      → valued f (cond test ((lsid, a) ∷ entries) (entry ∷ with_entry lsid a entries))
      ≡ cond test ((lsid, f a) ∷ valued f entries) ((entry.0, f entry.1)
      ∷ with_entry lsid (f a) (valued f entries))
  entry_case lsid a entry entries true more = refl
  entry_case lsid a entry entries false more =
      ap (λ (xs : BySession B). (entry.0, f entry.1) ∷ xs) more

  pub valued_entry : (lsid : Lsid) (a : A) (entries : BySession A)
      → valued f (with_entry lsid a entries) ≡ with_entry lsid (f a) (valued f entries)
  valued_entry lsid a [] = refl
  valued_entry lsid a (entry ∷ entries) =
      entry_case lsid a entry entries (same_lsid lsid entry.0) (valued_entry lsid a entries)

module _ {K A B : Type 0} (cmp : K → K → Ordering) (total : IsTotalOrder cmp)
    (exact : CmpEqualImpliesEq cmp) (g : A → Option B) where
  -- what is kept is above what all is
  above_case : (key : K) (row : K × A) (o : Option B) (rows : List (K × B)) → cmp key row.0 ≡ Less
      → AllAbove cmp key rows → AllAbove cmp key (cons_option (option_map (λ b. (row.0, b)) o) rows)
  above_case key row None rows is h = h
  above_case key row (Some b) rows is h = (is, h)

  pub above_kept : (key : K) (rows : List (K × A)) → AllAbove cmp key rows
      → AllAbove cmp key (kept g rows)
  above_kept key [] h = tt
  above_kept key (row ∷ rows) h =
      above_case key row (g row.1) (kept g rows) h.0 (above_kept key rows h.1)

  pub in_front : (key : K) (b : B) (rows : List (K × B)) → AllAbove cmp key rows
      → put cmp key b rows ≡ (key, b) ∷ rows
  in_front key b [] h = refl
  in_front key b (row ∷ rows) h = rw (put, h.0) refl

  -- in place of what was kept there, or of nothing
  pub equal_case : (key : K) (b : B) (row : K × A) (o : Option B) (rows : List (K × B))
      → cmp key row.0 ≡ Equal → AllAbove cmp key rows
      → (key, b) ∷ rows ≡ put cmp key b (cons_option (option_map (λ b. (row.0, b)) o) rows)
  equal_case key b row None rows is h = sym (in_front key b rows h)
  equal_case key b row (Some c) rows is h = rw (put, is) refl

  -- after what was kept, or after nothing
  greater_case : (key : K) (b : B) (row : K × A) (o : Option B) (rows : List (K × B))
      → cmp key row.0 ≡ Greater
      → cons_option (option_map (λ b. (row.0, b)) o) (put cmp key b rows)
      ≡ put cmp key b (cons_option (option_map (λ b. (row.0, b)) o) rows)
  greater_case key b row None rows is = refl
  greater_case key b row (Some c) rows is = rw (put, is) refl

  kept_put_case : (key : K) (a : A) (b : B) (row : K × A) (rows : List (K × A)) (o : Ordering)
      → cmp key row.0 ≡ o → g a ≡ Some b → Rises cmp (row ∷ rows)
      → kept g (put cmp key a rows) ≡ put cmp key b (kept g rows)
      → kept g (elim o [
        | Less ↦ (key, a) ∷ row ∷ rows
        | Equal ↦ (key, a) ∷ rows
        | Greater ↦ row ∷ put cmp key a rows
      ]) ≡ put cmp key b (kept g (row ∷ rows))
  kept_put_case key a b row rows Less is e h more =
      rw e (sym (in_front key b (kept g (row ∷ rows))
      (above_kept key (row ∷ rows) (is, above_trans cmp total exact key row.0 rows is h.0))))
  kept_put_case key a b row rows Equal is e h more =
      rw e (equal_case key b row (g row.1) (kept g rows) is (above_kept key rows
      (subst (λ (k : K). AllAbove cmp k rows) (sym (exact key row.0 is)) h.0)))
  kept_put_case key a b row rows Greater is e h more =
      ap (λ (xs : List (K × B)). cons_option (option_map (λ b. (row.0, b)) (g row.1)) xs) more
      ∙ greater_case key b row (g row.1) (kept g rows) is

  pub kept_put : (key : K) (a : A) (b : B) (rows : List (K × A)) → g a ≡ Some b → Rises cmp rows
      → kept g (put cmp key a rows) ≡ put cmp key b (kept g rows)
  kept_put key a b [] e h = rw e refl
  kept_put key a b (row ∷ rows) e h =
      kept_put_case key a b row rows (cmp key row.0) refl e h (kept_put key a b rows e h.1)
