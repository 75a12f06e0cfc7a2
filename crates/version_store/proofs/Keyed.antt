-- Lists by key as a tree keeps them: what is found under a key, what is put there, and what changes
-- there.
use Rattle.std.proofs.Common.{◌≡◌, Bool, true, false, cond, List, [], ◌∷◌, ◌++◌, Option, Some, None}
use Rattle.std.proofs.Common.{find, option_map, refl, ap, sym, subst, ◌∙◌}
use Rattle.std.specs.List.{AllByRecursion}
use Rattle.std.specs.List.Sorted.{IsStrictlySortedBy}
use Rattle.std.specs.Map.{lookup, set_value, keys_of as map_keys}
use Rattle.std.specs.BTreeMap.{is_at, insert_entry}
use Rattle.std.specs.Cmp.{IsTotalOrder}
use Rattle.std.specs.Ordering.{is_eq, match_ordering, ordering_reverse}
use Rattle.std.specs.declared.cmp.Ordering.{Ordering}
use Rattle.std.specs.declared.cmp.Ordering.TheVariants.{Less, Equal, Greater}
use Rattle.std.proofs.lemmas.List.{append_assoc}
use Rattle.std.proofs.lemmas.Map.Lookups.{CmpEqualImpliesEq}
use Rattle.txn_semantics.specs.Keyed.{put, AllAbove, Rises}
use Rattle.txn_semantics.proofs.Laying as laying
use Rattle.version_store.specs.Chains.{changed_at, changed_under}

-- each of the keys is above this one
abbrev pub AllOver : {K : Type 0} → (K → K → Ordering) → K → List K → Type 0
AllOver cmp key [] = Unit {0}
AllOver cmp key (other ∷ others) = (cmp key other ≡ Less) × AllOver cmp key others

back_less : {K : Type 0} (cmp : K → K → Ordering) → IsTotalOrder cmp → (a b : K) → cmp a b ≡ Less
    → cmp b a ≡ Greater
back_less cmp total a b h = total.antisymm b a ∙ ap ordering_reverse h

module _ {K V : Type 0} (cmp : K → K → Ordering) where
  -- the keys of a tree rise
  all_above : (key : K) (rows : List (K × V))
      → AllByRecursion (λ q. cmp key q ≡ Less) (map_keys rows) → AllAbove cmp key rows
  all_above key [] h = tt
  all_above key (row ∷ rows) h = (h.0, all_above key rows h.1)

  pub rises_of : (rows : List (K × V)) → IsStrictlySortedBy cmp (map_keys rows) → Rises cmp rows
  unfolding IsStrictlySortedBy
  rises_of [] h = tt
  rises_of (row ∷ rows) h = (all_above row.0 rows h.0, rises_of rows h.1)

  -- what is found under a key
  found_case : (row : K × V) (b : Bool) (r : Option V) (s : Option (K × V))
      → r ≡ option_map (λ found. found.1) s
      → cond b (Some row.1) r ≡ option_map (λ found. found.1) (cond b (Some row) s)
  found_case row true r s h = refl
  found_case row false r s h = h

  pub found : (key : K) (rows : List (K × V)) → lookup (is_at (cmp key)) rows
      ≡ option_map (λ row. row.1) (find (λ row. is_eq (cmp key row.0)) rows)
  found key [] = refl
  found key (row ∷ rows) = found_case row (is_eq (cmp key row.0)) _ _ (found key rows)

  -- a row of another key is passed over
  pub passed : (key : K) (row : K × V) (rows : List (K × V)) (o : Ordering) → cmp key row.0 ≡ o
      → is_eq o ≡ false → lookup (is_at (cmp key)) (row ∷ rows) ≡ lookup (is_at (cmp key)) rows
  passed key row rows o is h =
      ap (λ (p : Ordering). cond (is_eq p) (Some row.1) (lookup (is_at (cmp key)) rows)) is
      ∙ ap (λ (b : Bool). cond b (Some row.1) (lookup (is_at (cmp key)) rows)) h

  pub found_here : (key : K) (row : K × V) (rows : List (K × V)) → cmp key row.0 ≡ Equal
      → lookup (is_at (cmp key)) (row ∷ rows) ≡ Some row.1
  found_here key row rows is =
      ap (λ (p : Ordering). cond (is_eq p) (Some row.1) (lookup (is_at (cmp key)) rows)) is

  -- nothing is found under a key below all
  pub none_above : (key : K) (rows : List (K × V)) → AllAbove cmp key rows
      → lookup (is_at (cmp key)) rows ≡ None
  none_above key [] h = refl
  none_above key (row ∷ rows) h = passed key row rows Less h.0 refl ∙ none_above key rows h.1

  -- what is put by cases of where the key stands
  pub put_in_front : (key : K) (v : V) (rows : List (K × V)) → AllAbove cmp key rows
      → put cmp key v rows ≡ (key, v) ∷ rows
  put_in_front key v [] h = refl
  put_in_front key v (row ∷ rows) h = ap (λ (o : Ordering). elim o [
    | Less ↦ (key, v) ∷ row ∷ rows
    | Equal ↦ (key, v) ∷ rows
    | Greater ↦ row ∷ put cmp key v rows
  ]) h.0

  pub put_here : (key : K) (v : V) (row : K × V) (rows : List (K × V)) → cmp key row.0 ≡ Equal
      → put cmp key v (row ∷ rows) ≡ (key, v) ∷ rows
  put_here key v row rows h = ap (λ (o : Ordering). elim o [
    | Less ↦ (key, v) ∷ row ∷ rows
    | Equal ↦ (key, v) ∷ rows
    | Greater ↦ row ∷ put cmp key v rows
  ]) h

  pub put_before : (key : K) (v : V) (row : K × V) (rows : List (K × V)) → cmp key row.0 ≡ Less
      → put cmp key v (row ∷ rows) ≡ (key, v) ∷ row ∷ rows
  put_before key v row rows h = ap (λ (o : Ordering). elim o [
    | Less ↦ (key, v) ∷ row ∷ rows
    | Equal ↦ (key, v) ∷ rows
    | Greater ↦ row ∷ put cmp key v rows
  ]) h

  pub put_behind : (key : K) (v : V) (row : K × V) (rows : List (K × V)) → cmp key row.0 ≡ Greater
      → put cmp key v (row ∷ rows) ≡ row ∷ put cmp key v rows
  put_behind key v row rows h = ap (λ (o : Ordering). elim o [
    | Less ↦ (key, v) ∷ row ∷ rows
    | Equal ↦ (key, v) ∷ rows
    | Greater ↦ row ∷ put cmp key v rows
  ]) h

  -- the same value again changes nothing
  same_case : (key : K) (w : V) (row : K × V) (rows rest : List (K × V)) (b : Bool)
      → cond b (Some row.1) (lookup (is_at (cmp key)) rows) ≡ Some w
      → (lookup (is_at (cmp key)) rows ≡ Some w → rest ≡ rows)
      → cond b ((row.0, w) ∷ rows) (row ∷ rest) ≡ row ∷ rows
  same_case key w row rows rest true there h =
      let same : row.1 ≡ w = cc in
      ap (λ (v : V). (row.0, v) ∷ rows) (sym same)
  same_case key w row rows rest false there h = ap (λ (xs : List (K × V)). row ∷ xs) (h there)

  pub set_same : (key : K) (w : V) (rows : List (K × V)) → lookup (is_at (cmp key)) rows ≡ Some w
      → set_value (is_at (cmp key)) rows w ≡ rows
  set_same key w [] there = cc
  set_same key w (row ∷ rows) there =
      same_case key w row rows _ (is_at (cmp key) row.0) there (set_same key w rows)

  -- what was written is found
  set_found_case : (key : K) (w new : V) (row : K × V) (rows rest : List (K × V)) (b : Bool)
      → is_at (cmp key) row.0 ≡ b → cond b (Some row.1) (lookup (is_at (cmp key)) rows) ≡ Some w
      → (lookup (is_at (cmp key)) rows ≡ Some w → lookup (is_at (cmp key)) rest ≡ Some new)
      → lookup (is_at (cmp key)) (cond b ((row.0, new) ∷ rows) (row ∷ rest)) ≡ Some new
  set_found_case key w new row rows rest true is there h =
      ap (λ (b : Bool). cond b (Some new) (lookup (is_at (cmp key)) rows)) is
  set_found_case key w new row rows rest false is there h =
      ap (λ (b : Bool). cond b (Some row.1) (lookup (is_at (cmp key)) rest)) is ∙ h there

  pub set_found : (key : K) (w new : V) (rows : List (K × V)) → lookup (is_at (cmp key)) rows
      ≡ Some w → lookup (is_at (cmp key)) (set_value (is_at (cmp key)) rows new) ≡ Some new
  set_found key w new [] there = cc
  set_found key w new (row ∷ rows) there = set_found_case key w new row rows _ (is_at (cmp key)
      row.0) refl there (set_found key w new rows)

  -- a change leaves a row of another key
  pub left_alone : (f : V → V) (key : K) (row : K × V) (rows : List (K × V)) (o : Ordering)
      → cmp key row.0 ≡ o → is_eq o ≡ false
      → changed_at cmp f key (row ∷ rows) ≡ row ∷ changed_at cmp f key rows
  left_alone f key row rows o is h =
      ap (λ (p : Ordering). cond (is_eq p) (row.0, f row.1) row ∷ changed_at cmp f key rows) is
      ∙ ap (λ (b : Bool). cond b (row.0, f row.1) row ∷ changed_at cmp f key rows) h

  pub changed_here : (f : V → V) (key : K) (row : K × V) (rows : List (K × V)) → cmp key row.0
      ≡ Equal → changed_at cmp f key (row ∷ rows) ≡ (row.0, f row.1) ∷ changed_at cmp f key rows
  changed_here f key row rows is =
      ap (λ (p : Ordering). cond (is_eq p) (row.0, f row.1) row ∷ changed_at cmp f key rows) is

  pub changed_above : (f : V → V) (key : K) (rows : List (K × V)) → AllAbove cmp key rows
      → changed_at cmp f key rows ≡ rows
  changed_above f key [] h = refl
  changed_above f key (row ∷ rows) h = left_alone f key row rows Less h.0 refl
      ∙ ap (λ (xs : List (K × V)). row ∷ xs) (changed_above f key rows h.1)

  -- where nothing is found, nothing changes
  absent_case : (f : V → V) (key : K) (row : K × V) (rows : List (K × V)) (o : Ordering)
      → cmp key row.0 ≡ o → cond (is_eq o) (Some row.1) (lookup (is_at (cmp key)) rows) ≡ None
      → (lookup (is_at (cmp key)) rows ≡ None → changed_at cmp f key rows ≡ rows)
      → changed_at cmp f key (row ∷ rows) ≡ row ∷ rows
  absent_case f key row rows Less is there h = left_alone f key row rows Less is refl
      ∙ ap (λ (xs : List (K × V)). row ∷ xs) (h there)
  absent_case f key row rows Equal is there h = cc
  absent_case f key row rows Greater is there h = left_alone f key row rows Greater is refl
      ∙ ap (λ (xs : List (K × V)). row ∷ xs) (h there)

  pub changed_absent : (f : V → V) (key : K) (rows : List (K × V))
      → lookup (is_at (cmp key)) rows ≡ None → changed_at cmp f key rows ≡ rows
  changed_absent f key [] there = refl
  changed_absent f key (row ∷ rows) there =
      absent_case f key row rows (cmp key row.0) refl there (changed_absent f key rows)

module _ {K V : Type 0} (cmp : K → K → Ordering) (total : IsTotalOrder cmp)
    (exact : CmpEqualImpliesEq cmp) where
  -- what the tree inserts is put
  inserted_case : (key : K) (v : V) (row : K × V) (rows rest : List (K × V)) (o : Ordering)
      → cmp key row.0 ≡ o → rest ≡ put cmp key v rows
      → match_ordering o ((key, v) ∷ row ∷ rows) ((row.0, v) ∷ rows) (row ∷ rest) ≡ elim o [
        | Less ↦ (key, v) ∷ row ∷ rows
        | Equal ↦ (key, v) ∷ rows
        | Greater ↦ row ∷ put cmp key v rows
      ]
  inserted_case key v row rows rest Less is h = refl
  inserted_case key v row rows rest Equal is h =
      ap (λ (k : K). (k, v) ∷ rows) (sym (exact key row.0 is))
  inserted_case key v row rows rest Greater is h = ap (λ (xs : List (K × V)). row ∷ xs) h

  pub inserted : (key : K) (v : V) (rows : List (K × V))
      → insert_entry cmp rows key v ≡ put cmp key v rows
  inserted key v [] = refl
  inserted key v (row ∷ rows) =
      inserted_case key v row rows _ (cmp key row.0) refl (inserted key v rows)

  -- a key after all is put last
  low_less : (low key : K) (v : V) (xs rest : List (K × V))
      → AllAbove cmp low (xs ++ (key, v) ∷ rest) → cmp low key ≡ Less
  low_less low key v [] rest h = h.0
  low_less low key v (x ∷ xs) rest h = low_less low key v xs rest h.1

  put_last : (key : K) (v : V) (xs rest : List (K × V)) → Rises cmp (xs ++ (key, v) ∷ rest)
      → put cmp key v xs ≡ xs ++ (key, v) ∷ []
  put_last key v [] rest r = refl
  put_last key v (x ∷ xs) rest r =
      put_behind cmp key v x xs (back_less cmp total x.0 key (low_less x.0 key v xs rest r.0))
      ∙ ap (λ (ys : List (K × V)). x ∷ ys) (put_last key v xs rest r.1)

  -- one more entry of a tree is copied: the copy, and what is left to copy, are still what they
  -- were
  pub put_on : (P : List (K × V)
      → Type 0) (copy new steps left : List (K × V)) (key key_again : K) (v v_again : V)
      → Rises cmp (copy ++ steps) → steps ≡ (key, v) ∷ left → key_again ≡ key → v_again ≡ v
      → new ≡ put cmp key_again v_again copy → P (copy ++ steps) → P (new ++ left)
  put_on P copy new steps left key key_again v v_again r next same_key same_value is so_far =
      let whole : copy ++ (key, v) ∷ left ≡ copy ++ steps =
      ap (λ (xs : List (K × V)). copy ++ xs) (sym next) in
      let now : new ≡ copy ++ (key, v) ∷ [] =
      is ∙ ap (λ (k : K). put cmp k v_again copy) same_key ∙ ap (λ (x : V). put cmp key x copy)
      same_value ∙ put_last key v copy left (subst (Rises cmp) (sym whole) r) in
      subst P (sym (ap (λ (xs : List (K × V)). xs ++ left) now
      ∙ append_assoc copy ((key, v) ∷ []) left ∙ whole)) so_far

  pub copied_on : (P : List (K × V)
      → Type 0) (copy new steps left : List (K × V)) (key key_again : K) (v v_again : V)
      → Rises cmp (copy ++ steps) → steps ≡ (key, v) ∷ left → key_again ≡ key → v_again ≡ v
      → new ≡ insert_entry cmp copy key_again v_again → P (copy ++ steps) → P (new ++ left)
  copied_on P copy new steps left key key_again v v_again r next same_key same_value is so_far =
      put_on P copy new steps left key key_again v v_again r next same_key same_value
      (is ∙ inserted key_again v_again copy) so_far

  above_all : (key : K) (row : K × V) (rows : List (K × V)) → cmp key row.0 ≡ Less
      → Rises cmp (row ∷ rows) → AllAbove cmp key rows
  above_all key row rows is r = laying.above_trans cmp total exact key row.0 rows is r.0

  pub same_above : (key : K) (row : K × V) (rows : List (K × V)) → cmp key row.0 ≡ Equal
      → Rises cmp (row ∷ rows) → AllAbove cmp key rows
  same_above key row rows is r =
      subst (λ (k : K). AllAbove cmp k rows) (sym (exact key row.0 is)) r.0

  -- nothing is found under a key below the first
  none_before : (key : K) (w : V) (row : K × V) (rows : List (K × V)) → cmp key row.0 ≡ Less
      → Rises cmp (row ∷ rows) → lookup (is_at (cmp key)) rows ≡ Some w → None ≡ Some w
  none_before key w row rows is r there =
      sym (none_above cmp key rows (above_all key row rows is r)) ∙ there

  -- what is written under a key that is there is put
  written_case : (key : K) (v w : V) (row : K × V) (rows rest : List (K × V)) (o : Ordering)
      → cmp key row.0 ≡ o → Rises cmp (row ∷ rows)
      → cond (is_eq o) (Some row.1) (lookup (is_at (cmp key)) rows) ≡ Some w
      → (lookup (is_at (cmp key)) rows ≡ Some w → rest ≡ put cmp key v rows)
      → cond (is_eq o) ((row.0, v) ∷ rows) (row ∷ rest) ≡ elim o [
        | Less ↦ (key, v) ∷ row ∷ rows
        | Equal ↦ (key, v) ∷ rows
        | Greater ↦ row ∷ put cmp key v rows
      ]
  written_case key v w row rows rest Less is r there h =
      let wrong : None ≡ Some w = none_before key w row rows is r there in
      cc
  written_case key v w row rows rest Equal is r there h =
      ap (λ (k : K). (k, v) ∷ rows) (sym (exact key row.0 is))
  written_case key v w row rows rest Greater is r there h =
      ap (λ (xs : List (K × V)). row ∷ xs) (h there)

  pub written : (key : K) (v w : V) (rows : List (K × V))
      → Rises cmp rows → lookup (is_at (cmp key)) rows ≡ Some w
      → set_value (is_at (cmp key)) rows v ≡ put cmp key v rows
  written key v w [] r there = cc
  written key v w (row ∷ rows) r there =
      written_case key v w row rows _ (cmp key row.0) refl r there (written key v w rows r.1)

  -- what is written under a key that is there is a change of it
  set_case : (f : V → V) (key : K) (w : V) (row : K × V) (rows rest : List (K × V)) (o : Ordering)
      → cmp key row.0 ≡ o → Rises cmp (row ∷ rows)
      → cond (is_eq o) (Some row.1) (lookup (is_at (cmp key)) rows) ≡ Some w
      → (lookup (is_at (cmp key)) rows ≡ Some w → rest ≡ changed_at cmp f key rows)
      → cond (is_eq o) ((row.0, f w) ∷ rows) (row ∷ rest) ≡ changed_at cmp f key (row ∷ rows)
  set_case f key w row rows rest Less is r there h = ap (λ (xs : List (K × V)). row ∷ xs) (h there)
      ∙ sym (left_alone cmp f key row rows Less is refl)
  set_case f key w row rows rest Equal is r there h =
      let same : row.1 ≡ w = cc in
      ap (λ (v : V). (row.0, f v) ∷ rows) (sym same)
      ∙ ap (λ (xs : List (K × V)). (row.0, f row.1) ∷ xs)
      (sym (changed_above cmp f key rows (same_above key row rows is r)))
      ∙ sym (changed_here cmp f key row rows is)
  set_case f key w row rows rest Greater is r there h = ap (λ (xs : List (K × V)). row
      ∷ xs) (h there) ∙ sym (left_alone cmp f key row rows Greater is refl)

  set_is_change : (f : V → V) (key : K) (w : V) (rows : List (K × V))
      → Rises cmp rows → lookup (is_at (cmp key)) rows ≡ Some w
      → set_value (is_at (cmp key)) rows (f w) ≡ changed_at cmp f key rows
  set_is_change f key w [] r there = cc
  set_is_change f key w (row ∷ rows) r there =
      set_case f key w row rows _ (cmp key row.0) refl r there (set_is_change f key w rows r.1)

  pub set_to : (f : V → V) (key : K) (w new : V) (rows : List (K × V))
      → new ≡ f w → Rises cmp rows → lookup (is_at (cmp key)) rows ≡ Some w
      → set_value (is_at (cmp key)) rows new ≡ changed_at cmp f key rows
  set_to f key w new rows is r there = ap (set_value (is_at (cmp key)) rows) is
      ∙ set_is_change f key w rows r there

  -- changes under keys above the first leave it
  pub changed_behind : (f : V → V) (keys : List K) (row : K × V) (rows : List (K × V))
      → AllOver cmp row.0 keys
      → changed_under cmp f keys (row ∷ rows) ≡ row ∷ changed_under cmp f keys rows
  changed_behind f [] row rows h = refl
  changed_behind f (key ∷ keys) row rows h =
      ap (changed_under cmp f keys) (left_alone cmp f key row rows Greater (back_less cmp total
      row.0 key h.0) refl) ∙ changed_behind f keys row (changed_at cmp f key rows) h.1
