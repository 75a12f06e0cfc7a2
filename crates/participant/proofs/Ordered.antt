-- Lists by session as a tree keeps them.
use Rattle.std.proofs.Common.{◌≡◌, cond, List, [], ◌∷◌, Option, None, IsSome, refl, ap, sym, subst}
use Rattle.std.proofs.Common.{◌∙◌, true≢false}
use Rattle.std.specs.Map.{lookup, remove_entry}
use Rattle.std.specs.BTreeMap.{is_at}
use Rattle.std.specs.Cmp.{IsTotalOrder}
use Rattle.std.specs.Ordering.{is_eq}
use Rattle.std.specs.declared.cmp.Ordering.{Ordering}
use Rattle.std.specs.declared.cmp.Ordering.TheVariants.{Less, Equal, Greater}
use Rattle.std.proofs.lemmas.Map.Lookups.{CmpEqualImpliesEq}
use Rattle.txn_semantics.specs.Keyed.{taken_out, AllAbove, Rises}
use Rattle.txn_semantics.proofs.Laying.{above_trans}
use Rattle.version_store.proofs.Keyed.{none_above, passed, same_above}

module _ {K V : Type 0} (cmp : K → K → Ordering) (total : IsTotalOrder cmp)
    (exact : CmpEqualImpliesEq cmp) where
  none_case : (key : K) (row : K × V) (rows : List (K × V)) (o : Ordering) → cmp key row.0 ≡ o
      → o ≡ Less → remove_entry (is_at (cmp key)) rows ≡ rows
      → cond (is_eq (cmp key row.0)) rows (row ∷ remove_entry (is_at (cmp key)) rows) ≡ row ∷ rows
  none_case key row rows o is less more =
      ap (λ (p : Ordering). cond (is_eq p) rows (row ∷ remove_entry (is_at (cmp key)) rows)) (is
      ∙ less) ∙ ap (λ (rest : List (K × V)). row ∷ rest) more

  -- nothing is removed below all
  none_removed : (key : K) (rows : List (K × V)) → AllAbove cmp key rows
      → remove_entry (is_at (cmp key)) rows ≡ rows
  none_removed key [] above = refl
  none_removed key (row ∷ rows) above =
      none_case key row rows (cmp key row.0) refl above.0 (none_removed key rows above.1)

  removed_case : (key : K) (row : K × V) (rows : List (K × V)) (o : Ordering) → cmp key row.0 ≡ o
      → Rises cmp (row ∷ rows) → remove_entry (is_at (cmp key)) rows ≡ taken_out cmp key rows
      → cond (is_eq o) rows (row ∷ remove_entry (is_at (cmp key)) rows)
      ≡ elim o [ Less ↦ row ∷ rows | Equal ↦ rows | Greater ↦ row ∷ taken_out cmp key rows ]
  removed_case key row rows Less is r more = ap (λ (rest : List (K × V)). row
      ∷ rest) (none_removed key rows (above_trans cmp total exact key row.0 rows is r.0))
  removed_case key row rows Equal is r more = refl
  removed_case key row rows Greater is r more = ap (λ (rest : List (K × V)). row ∷ rest) more

  -- what the tree removes is taken out
  pub removed : (key : K) (rows : List (K × V)) → Rises cmp rows
      → remove_entry (is_at (cmp key)) rows ≡ taken_out cmp key rows
  removed key [] r = refl
  removed key (row ∷ rows) r =
      removed_case key row rows (cmp key row.0) refl r (removed key rows r.1)

  taken_case : (key : K) (row : K × V) (rows : List (K × V)) (o : Ordering) → cmp key row.0 ≡ o
      → Rises cmp (row ∷ rows) → lookup (is_at (cmp key)) (taken_out cmp key rows) ≡ None
      → lookup (is_at (cmp key)) (elim o
      [ Less ↦ row ∷ rows | Equal ↦ rows | Greater ↦ row ∷ taken_out cmp key rows ]) ≡ None
  taken_case key row rows Less is r more = passed cmp key row rows Less is refl
      ∙ none_above cmp key rows (above_trans cmp total exact key row.0 rows is r.0)
  taken_case key row rows Equal is r more =
      none_above cmp key rows (same_above cmp total exact key row rows is r)
  taken_case key row rows Greater is r more =
      passed cmp key row (taken_out cmp key rows) Greater is refl ∙ more

  -- what is taken out isn't found
  pub taken_none : (key : K) (rows : List (K × V)) → Rises cmp rows
      → lookup (is_at (cmp key)) (taken_out cmp key rows) ≡ None
  taken_none key [] r = refl
  taken_none key (row ∷ rows) r =
      taken_case key row rows (cmp key row.0) refl r (taken_none key rows r.1)

-- nothing is found where something is asked for
pub absent : {A : Type 0} (a b : Option A) → a ≡ b → a ≡ None → IsSome b → ⊥
absent a b is none some = true≢false (sym (subst IsSome (sym is ∙ none) some))
