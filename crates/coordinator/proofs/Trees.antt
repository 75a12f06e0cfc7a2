-- The entries of an ordered map as a list that rises by its keys: what is found, put and taken out.
use Rattle.std.proofs.Common.{◌≡◌, Bool, true, false, cond, List, [], ◌∷◌, Option, Some, None, find}
use Rattle.std.proofs.Common.{option_map, refl, ap, sym, ◌∙◌}
use Rattle.std.specs.List.{AllByRecursion}
use Rattle.std.specs.List.Sorted.{IsStrictlySortedBy}
use Rattle.std.specs.Map.{lookup, set_value, remove_entry, keys_of}
use Rattle.std.specs.BTreeMap.{is_at, insert_entry}
use Rattle.std.specs.Cmp.{IsTotalOrder}
use Rattle.std.specs.Ordering.{is_eq, match_ordering, ordering_reverse}
use Rattle.std.specs.declared.cmp.Ordering.{Ordering}
use Rattle.std.specs.declared.cmp.Ordering.TheVariants.{Less, Equal, Greater}
use Rattle.std.proofs.lemmas.Map.Lookups.{CmpEqualImpliesEq}
use Rattle.txn_semantics.specs.Keyed.{put, taken_out, AllAbove, Rises}
use Rattle.txn_semantics.proofs.Laying as laying

turned_case : (o : Ordering) → is_eq (ordering_reverse o) ≡ is_eq o
turned_case Less = refl
turned_case Equal = refl
turned_case Greater = refl

module _ {K A : Type 0} (cmp : K → K → Ordering) (total : IsTotalOrder cmp)
    (exact : CmpEqualImpliesEq cmp) where
  -- the keys of a map rise
  all_above : (key : K) (rows : List (K × A))
      → AllByRecursion (λ q. cmp key q ≡ Less) (keys_of rows) → AllAbove cmp key rows
  all_above key [] h = tt
  all_above key (row ∷ rows) h = (h.0, all_above key rows h.1)

  pub rises_of : (rows : List (K × A)) → IsStrictlySortedBy cmp (keys_of rows) → Rises cmp rows
  unfolding IsStrictlySortedBy
  rises_of [] h = tt
  rises_of (row ∷ rows) h = (all_above row.0 rows h.0, rises_of rows h.1)

  -- what is found under a key
  found_case : (row : K × A) (b d : Bool) (r : Option A) (s : Option (K × A))
      → b ≡ d → r ≡ option_map (λ found. found.1) s
      → cond b (Some row.1) r ≡ option_map (λ found. found.1) (cond d (Some row) s)
  found_case row true true r s e h = refl
  found_case row false false r s e h = h
  found_case row true false r s e h = cc
  found_case row false true r s e h = cc

  pub found : (key : K) (rows : List (K × A)) → lookup (is_at (cmp key)) rows
      ≡ option_map (λ row. row.1) (find (λ row. is_eq (cmp row.0 key)) rows)
  found key [] = refl
  found key (row ∷ rows) =
      found_case row (is_eq (cmp key row.0)) (is_eq (cmp row.0 key)) (lookup (is_at (cmp key)) rows)
      (find (λ row. is_eq (cmp row.0 key)) rows)
      (ap is_eq (total.antisymm key row.0) ∙ turned_case (cmp row.0 key)) (found key rows)

  -- nothing is found under a key below all
  pub none_above : (key : K) (rows : List (K × A)) → AllAbove cmp key rows
      → lookup (is_at (cmp key)) rows ≡ None
  none_above key [] h = refl
  none_above key (row ∷ rows) h = ap (λ (o : Ordering). cond (is_eq o) (Some row.1)
      (lookup (is_at (cmp key)) rows)) h.0 ∙ none_above key rows h.1

  -- what the map inserts is put
  inserted_case : (key : K) (a : A) (row : K × A) (rows rest : List (K × A)) (o : Ordering)
      → cmp key row.0 ≡ o → rest ≡ put cmp key a rows
      → match_ordering o ((key, a) ∷ row ∷ rows) ((row.0, a) ∷ rows) (row ∷ rest) ≡ elim o [
        | Less ↦ (key, a) ∷ row ∷ rows
        | Equal ↦ (key, a) ∷ rows
        | Greater ↦ row ∷ put cmp key a rows
      ]
  inserted_case key a row rows rest Less is h = refl
  inserted_case key a row rows rest Equal is h =
      ap (λ (k : K). (k, a) ∷ rows) (sym (exact key row.0 is))
  inserted_case key a row rows rest Greater is h = ap (λ (xs : List (K × A)). row ∷ xs) h

  pub inserted : (key : K) (a : A) (rows : List (K × A))
      → insert_entry cmp rows key a ≡ put cmp key a rows
  inserted key a [] = refl
  inserted key a (row ∷ rows) = inserted_case key a row rows (insert_entry cmp rows key a) (cmp key
      row.0) refl (inserted key a rows)

  -- what is written under a key that is there is put
  written_case : (key : K) (a w : A) (row : K × A) (rows rest : List (K × A)) (o : Ordering)
      → cmp key row.0 ≡ o → Rises cmp (row ∷ rows)
      → cond (is_eq o) (Some row.1) (lookup (is_at (cmp key)) rows) ≡ Some w
      → (lookup (is_at (cmp key)) rows ≡ Some w → rest ≡ put cmp key a rows)
      → cond (is_eq o) ((row.0, a) ∷ rows) (row ∷ rest) ≡ elim o [
        | Less ↦ (key, a) ∷ row ∷ rows
        | Equal ↦ (key, a) ∷ rows
        | Greater ↦ row ∷ put cmp key a rows
      ]
  written_case key a w row rows rest Less is r there h =
      let nothing : lookup (is_at (cmp key)) rows ≡ None =
      none_above key rows (laying.above_trans cmp total exact key row.0 rows is r.0) in
      let wrong : None ≡ Some w = sym nothing ∙ there in cc
  written_case key a w row rows rest Equal is r there h =
      ap (λ (k : K). (k, a) ∷ rows) (sym (exact key row.0 is))
  written_case key a w row rows rest Greater is r there h =
      ap (λ (xs : List (K × A)). row ∷ xs) (h there)

  pub written : (key : K) (a w : A) (rows : List (K × A))
      → Rises cmp rows → lookup (is_at (cmp key)) rows ≡ Some w
      → set_value (is_at (cmp key)) rows a ≡ put cmp key a rows
  written key a w [] r there = cc
  written key a w (row ∷ rows) r there = written_case key a w row rows (set_value (is_at (cmp key))
      rows a) (cmp key row.0) refl r there (written key a w rows r.1)

  -- what is taken out of a map
  none_removed : (key : K) (rows : List (K × A)) → AllAbove cmp key rows
      → remove_entry (is_at (cmp key)) rows ≡ rows
  none_removed key [] h = refl
  none_removed key (row ∷ rows) h =
      ap (λ (o : Ordering). cond (is_eq o) rows (row ∷ remove_entry (is_at (cmp key)) rows)) h.0
      ∙ ap (λ (xs : List (K × A)). row ∷ xs) (none_removed key rows h.1)

  removed_case : (key : K) (row : K × A) (rows rest : List (K × A)) (o : Ordering)
      → cmp key row.0 ≡ o → Rises cmp (row ∷ rows)
      → (AllAbove cmp key rows → rest ≡ rows) → rest ≡ taken_out cmp key rows
      → cond (is_eq o) rows (row ∷ rest)
      ≡ elim o [ Less ↦ row ∷ rows | Equal ↦ rows | Greater ↦ row ∷ taken_out cmp key rows ]
  removed_case key row rows rest Less is r none h = ap (λ (xs : List (K × A)). row
      ∷ xs) (none (laying.above_trans cmp total exact key row.0 rows is r.0))
  removed_case key row rows rest Equal is r none h = refl
  removed_case key row rows rest Greater is r none h = ap (λ (xs : List (K × A)). row ∷ xs) h

  pub removed : (key : K) (rows : List (K × A)) → Rises cmp rows
      → remove_entry (is_at (cmp key)) rows ≡ taken_out cmp key rows
  removed key [] r = refl
  removed key (row ∷ rows) r = removed_case key row rows (remove_entry (is_at (cmp key)) rows)
      (cmp key row.0) refl r (none_removed key rows) (removed key rows r.1)

  -- what is found under a key after a change there, and under another key
  abbrev at_key : K → K × A → Bool
  at_key key row = is_eq (cmp row.0 key)

  pub put_found_case : (key : K) (a : A) (row : K × A) (rows : List (K × A)) (o : Ordering)
      → cmp key row.0 ≡ o → find (at_key key) (put cmp key a rows) ≡ Some (key, a)
      → find (at_key key) (elim o [
        | Less ↦ (key, a) ∷ row ∷ rows
        | Equal ↦ (key, a) ∷ rows
        | Greater ↦ row ∷ put cmp key a rows
      ]) ≡ Some (key, a)
  put_found_case key a row rows Less is h = ap (λ (o : Ordering). cond (is_eq o) (Some (key, a))
      (find (at_key key) (row ∷ rows))) (laying.cmp_self cmp total exact key)
  put_found_case key a row rows Equal is h = ap (λ (o : Ordering).
      cond (is_eq o) (Some (key, a)) (find (at_key key) rows)) (laying.cmp_self cmp total exact key)
  put_found_case key a row rows Greater is h =
      ap (λ (o : Ordering). cond (is_eq o) (Some row) (find (at_key key) (put cmp key a rows)))
      (total.antisymm row.0 key ∙ ap ordering_reverse is) ∙ h

  pub put_found : (key : K) (a : A) (rows : List (K × A))
      → find (at_key key) (put cmp key a rows) ≡ Some (key, a)
  put_found key a [] = ap (λ (o : Ordering). cond (is_eq o) (Some (key, a)) None)
      (laying.cmp_self cmp total exact key)
  put_found key a (row ∷ rows) =
      put_found_case key a row rows (cmp key row.0) refl (put_found key a rows)

  put_other_case : (key other : K) (a : A) (row : K × A) (rows : List (K × A)) (o : Ordering)
      → cmp key row.0 ≡ o → is_eq (cmp key other) ≡ false
      → find (at_key other) (put cmp key a rows) ≡ find (at_key other) rows
      → find (at_key other) (elim o [
        | Less ↦ (key, a) ∷ row ∷ rows
        | Equal ↦ (key, a) ∷ rows
        | Greater ↦ row ∷ put cmp key a rows
      ]) ≡ find (at_key other) (row ∷ rows)
  put_other_case key other a row rows Less is apart h =
      ap (λ (b : Bool). cond b (Some (key, a)) (find (at_key other) (row ∷ rows))) apart
  put_other_case key other a row rows Equal is apart h =
      let here : is_eq (cmp row.0 other) ≡ false =
      ap (λ (k : K). is_eq (cmp k other)) (sym (exact key row.0 is)) ∙ apart in
      ap (λ (b : Bool). cond b (Some (key, a)) (find (at_key other) rows)) apart
      ∙ sym (ap (λ (b : Bool). cond b (Some row) (find (at_key other) rows)) here)
  put_other_case key other a row rows Greater is apart h =
      ap (λ (o : Option (K × A)). cond (at_key other row) (Some row) o) h

  pub put_other : (key other : K) (a : A) (rows : List (K × A)) → is_eq (cmp key other) ≡ false
      → find (at_key other) (put cmp key a rows) ≡ find (at_key other) rows
  put_other key other a [] apart = ap (λ (b : Bool). cond b (Some (key, a)) None) apart
  put_other key other a (row ∷ rows) apart = put_other_case key other a row rows (cmp key row.0)
      refl apart (put_other key other a rows apart)

  taken_other_case : (key other : K) (row : K × A) (rows : List (K × A)) (o : Ordering)
      → cmp key row.0 ≡ o → is_eq (cmp key other) ≡ false
      → find (at_key other) (taken_out cmp key rows) ≡ find (at_key other) rows
      → find (at_key other) (elim o
      [ Less ↦ row ∷ rows | Equal ↦ rows | Greater ↦ row ∷ taken_out cmp key rows ])
      ≡ find (at_key other) (row ∷ rows)
  taken_other_case key other row rows Less is apart h = refl
  taken_other_case key other row rows Equal is apart h =
      let here : is_eq (cmp row.0 other) ≡ false =
      ap (λ (k : K). is_eq (cmp k other)) (sym (exact key row.0 is)) ∙ apart in
      sym (ap (λ (b : Bool). cond b (Some row) (find (at_key other) rows)) here)
  taken_other_case key other row rows Greater is apart h =
      ap (λ (o : Option (K × A)). cond (at_key other row) (Some row) o) h

  pub taken_other : (key other : K) (rows : List (K × A)) → is_eq (cmp key other) ≡ false
      → find (at_key other) (taken_out cmp key rows) ≡ find (at_key other) rows
  taken_other key other [] apart = refl
  taken_other key other (row ∷ rows) apart = taken_other_case key other row rows (cmp key row.0)
      refl apart (taken_other key other rows apart)
