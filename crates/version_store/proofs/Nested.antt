-- Lists by keys in two parts, flattened: what is found, put and changed under both parts is found,
-- put and changed under the second part in what stands under the first.
use Rattle.std.proofs.Common.{◌≡◌, Bool, true, false, cond, List, [], ◌∷◌, ◌++◌, Option, Some, None}
use Rattle.std.proofs.Common.{unwrap_or, refl, ap, sym, ◌∙◌}
use Rattle.std.specs.Map.{lookup}
use Rattle.std.specs.BTreeMap.{is_at}
use Rattle.std.specs.Cmp.{IsTotalOrder}
use Rattle.std.specs.Ordering.{is_eq, ordering_then}
use Rattle.std.specs.declared.cmp.Ordering.{Ordering}
use Rattle.std.specs.declared.cmp.Ordering.TheVariants.{Less, Equal, Greater}
use Rattle.std.proofs.lemmas.List.{map-append}
use Rattle.std.proofs.lemmas.Map.Lookups.{CmpEqualImpliesEq}
use Rattle.txn_semantics.specs.Keyed.{put, AllAbove, Rises}
use Rattle.txn_semantics.proofs.Laying as laying
use Rattle.version_store.specs.Chains.{changed_at}
use Rattle.version_store.specs.Nested.{under_first, flattened}
use Rattle.version_store.proofs.Keyed as keyed

-- by the first part, and then by the second
abbrev pub both : {A B : Type 0} → (A → A → Ordering) → (B → B → Ordering) → A × B
    → A × B → Ordering
both first second x y = ordering_then (first x.0 y.0) (second x.1 y.1)

-- what stands under each first part rises
abbrev pub AllRise : {A B V : Type 0} → (B → B → Ordering) → List (A × List (B × V)) → Type 0
AllRise second [] = Unit {0}
AllRise second (group ∷ groups) = Rises second group.1 × AllRise second groups

module _ {A B : Type 0} (first : A → A → Ordering) (second : B → B → Ordering)
    (total : IsTotalOrder first) (exact : CmpEqualImpliesEq first) where
  -- where two keys stand
  stand_apart : (a b : A) (i j : B) (o : Ordering) → first a b ≡ o → is_eq o ≡ false
      → both first second (a, i) (b, j) ≡ o
  stand_apart a b i j Less is h = ap (λ (o : Ordering). ordering_then o (second i j)) is
  stand_apart a b i j Equal is h = cc
  stand_apart a b i j Greater is h = ap (λ (o : Ordering). ordering_then o (second i j)) is

  stand_so : (a : A) (i j : B) → both first second (a, i) (a, j) ≡ second i j
  stand_so a i j =
      ap (λ (o : Ordering). ordering_then o (second i j)) (laying.cmp_self first total exact a)

module _ {A B V : Type 0} (first : A → A → Ordering) (second : B → B → Ordering)
    (total : IsTotalOrder first) (exact : CmpEqualImpliesEq first) where
  -- the keys rise
  above_append : (key : A × B) (xs ys : List ((A × B) × V)) → AllAbove (both first second) key xs
      → AllAbove (both first second) key ys → AllAbove (both first second) key (xs ++ ys)
  above_append key [] ys h more = more
  above_append key (x ∷ xs) ys h more = (h.0, above_append key xs ys h.1 more)

  above_under : (a : A) (i : B) (rows : List (B × V)) → AllAbove second i rows
      → AllAbove (both first second) (a, i) (under_first a rows)
  above_under a i [] h = tt
  above_under a i (row ∷ rows) h =
      (stand_so first second total exact a i row.0 ∙ h.0, above_under a i rows h.1)

  above_other : (a b : A) (i : B) (rows : List (B × V)) → first a b ≡ Less
      → AllAbove (both first second) (a, i) (under_first b rows)
  above_other a b i [] h = tt
  above_other a b i (row ∷ rows) h =
      (stand_apart first second total exact a b i row.0 Less h refl, above_other a b i rows h)

  pub above_groups : (a : A) (i : B) (groups : List (A × List (B × V))) → AllAbove first a groups
      → AllAbove (both first second) (a, i) (flattened groups)
  above_groups a i [] h = tt
  above_groups a i (group ∷ groups) h = above_append (a, i) (under_first group.0 group.1)
      (flattened groups) (above_other a group.0 i group.1 h.0) (above_groups a i groups h.1)

  rises_before : (a : A) (rows : List (B × V)) (groups : List (A × List (B × V)))
      → Rises second rows → AllAbove first a groups → Rises (both first second) (flattened groups)
      → Rises (both first second) (under_first a rows ++ flattened groups)
  rises_before a [] groups r h more = more
  rises_before a (row ∷ rows) groups r h more = (
    above_append (a, row.0) (under_first a rows) (flattened groups) (above_under a row.0 rows r.0)
        (above_groups a row.0 groups h),
    rises_before a rows groups r.1 h more,
  )

  pub rises_flattened : (groups : List (A × List (B × V))) → Rises first groups
      → AllRise second groups → Rises (both first second) (flattened groups)
  rises_flattened [] r each = tt
  rises_flattened (group ∷ groups) r each =
      rises_before group.0 group.1 groups each.0 r.0 (rises_flattened groups r.1 each.1)

  -- what is found
  found_past : (a b : A) (i : B) (rows : List (B × V)) (rest : List ((A × B) × V)) (o : Ordering)
      → first a b ≡ o → is_eq o ≡ false
      → lookup (is_at (both first second (a, i))) (under_first b rows ++ rest)
      ≡ lookup (is_at (both first second (a, i))) rest
  found_past a b i [] rest o is h = refl
  found_past a b i (row ∷ rows) rest o is h =
      keyed.passed (both first second) (a, i) ((b, row.0), row.1) (under_first b rows
      ++ rest) o (stand_apart first second total exact a b i row.0 o is h) h
      ∙ found_past a b i rows rest o is h

  found_within : (a : A) (i : B) (rows : List (B × V)) (rest : List ((A × B) × V))
      → lookup (is_at (both first second (a, i))) rest ≡ None
      → lookup (is_at (both first second (a, i))) (under_first a rows ++ rest)
      ≡ lookup (is_at (second i)) rows
  found_within a i [] rest none = none
  found_within a i (row ∷ rows) rest none =
      ap (λ (o : Ordering). cond (is_eq o) (Some row.1) (lookup (is_at (both first second (a, i)))
      (under_first a rows ++ rest))) (stand_so first second total exact a i row.0)
      ∙ ap (λ (r : Option V). cond (is_eq (second i row.0)) (Some row.1) r)
      (found_within a i rows rest none)

  abbrev pub group_of : A → List (A × List (B × V)) → List (B × V)
  group_of a groups = unwrap_or (lookup (is_at (first a)) groups) []

  group_absent : (a : A) (groups : List (A × List (B × V))) → lookup (is_at (first a)) groups ≡ None
      → group_of a groups ≡ []
  group_absent a groups h = ap (λ (o : Option (List (B × V))). unwrap_or o []) h

  group_past : (a : A) (group : A × List (B × V)) (groups : List (A × List (B × V))) (o : Ordering)
      → first a group.0 ≡ o → is_eq o ≡ false → group_of a (group ∷ groups) ≡ group_of a groups
  group_past a group groups o is h =
      ap (λ (r : Option (List (B × V))). unwrap_or r []) (keyed.passed first a group groups o is h)

  group_here : (a : A) (group : A × List (B × V)) (groups : List (A × List (B × V)))
      → first a group.0 ≡ Equal → group_of a (group ∷ groups) ≡ group.1
  group_here a group groups is =
      ap (λ (r : Option (List (B × V))). unwrap_or r []) (keyed.found_here first a group groups is)

  found_case : (a : A) (i : B) (group : A × List (B × V)) (groups : List (A × List (B × V)))
      (o : Ordering) → first a group.0 ≡ o → Rises first (group ∷ groups)
      → lookup (is_at (both first second (a, i))) (flattened groups)
      ≡ lookup (is_at (second i)) (group_of a groups)
      → lookup (is_at (both first second (a, i))) (flattened (group ∷ groups))
      ≡ lookup (is_at (second i)) (group_of a (group ∷ groups))
  found_case a i group groups Less is r h = found_past a group.0 i group.1 (flattened groups) Less
      is refl ∙ h ∙ ap (lookup (is_at (second i))) (sym (group_past a group groups Less is refl))
  found_case a i group groups Equal is r h =
      let above : AllAbove first a groups =
      keyed.same_above first total exact a group groups is r in
      ap (λ (b : A). lookup (is_at (both first second (a, i)))
      (under_first b group.1 ++ flattened groups)) (sym (exact a group.0 is))
      ∙ found_within a i group.1 (flattened groups) (keyed.none_above (both first second) (a, i)
      (flattened groups) (above_groups a i groups above))
      ∙ ap (lookup (is_at (second i))) (sym (group_here a group groups is))
  found_case a i group groups Greater is r h =
      found_past a group.0 i group.1 (flattened groups) Greater is refl ∙ h
      ∙ ap (lookup (is_at (second i))) (sym (group_past a group groups Greater is refl))

  pub found_flattened : (a : A) (i : B) (groups : List (A × List (B × V)))
      → Rises first groups → lookup (is_at (both first second (a, i))) (flattened groups)
      ≡ lookup (is_at (second i)) (group_of a groups)
  found_flattened a i [] r = refl
  found_flattened a i (group ∷ groups) r =
      found_case a i group groups (first a group.0) refl r (found_flattened a i groups r.1)

  -- what is put
  put_past : (a b : A) (i : B) (v : V) (rows : List (B × V)) (rest : List ((A × B) × V))
      → first a b ≡ Greater
      → put (both first second) (a, i) v (under_first b rows ++ rest)
      ≡ under_first b rows ++ put (both first second) (a, i) v rest
  put_past a b i v [] rest is = refl
  put_past a b i v (row ∷ rows) rest is =
      keyed.put_behind (both first second) (a, i) v ((b, row.0), row.1) (under_first b rows ++ rest)
      (stand_apart first second total exact a b i row.0 Greater is refl)
      ∙ ap (λ (xs : List ((A × B) × V)). ((b, row.0), row.1) ∷ xs) (put_past a b i v rows rest is)

  within_case : (a : A) (i : B) (v : V) (row : B
      × V) (rows : List (B × V)) (rest : List ((A × B) × V)) (o : Ordering) → second i row.0 ≡ o
      → put (both first second) (a, i) v (under_first a rows ++ rest)
      ≡ under_first a (put second i v rows) ++ rest
      → put (both first second) (a, i) v (under_first a (row ∷ rows) ++ rest)
      ≡ under_first a (put second i v (row ∷ rows)) ++ rest
  within_case a i v row rows rest Less is h =
      keyed.put_before (both first second) (a, i) v ((a, row.0), row.1) (under_first a rows ++ rest)
      (stand_so first second total exact a i row.0 ∙ is)
      ∙ ap (λ (xs : List (B × V)). under_first a xs ++ rest)
      (sym (keyed.put_before second i v row rows is))
  within_case a i v row rows rest Equal is h =
      keyed.put_here (both first second) (a, i) v ((a, row.0), row.1) (under_first a rows ++ rest)
      (stand_so first second total exact a i row.0 ∙ is)
      ∙ ap (λ (xs : List (B × V)). under_first a xs ++ rest)
      (sym (keyed.put_here second i v row rows is))
  within_case a i v row rows rest Greater is h =
      keyed.put_behind (both first second) (a, i) v ((a, row.0), row.1) (under_first a rows ++ rest)
      (stand_so first second total exact a i row.0 ∙ is)
      ∙ ap (λ (xs : List ((A × B) × V)). ((a, row.0), row.1) ∷ xs) h
      ∙ ap (λ (xs : List (B × V)). under_first a xs ++ rest)
      (sym (keyed.put_behind second i v row rows is))

  put_within : (a : A) (i : B) (v : V) (rows : List (B × V)) (rest : List ((A × B) × V))
      → AllAbove (both first second) (a, i) rest
      → put (both first second) (a, i) v (under_first a rows ++ rest)
      ≡ under_first a (put second i v rows) ++ rest
  put_within a i v [] rest above = keyed.put_in_front (both first second) (a, i) v rest above
  put_within a i v (row ∷ rows) rest above =
      within_case a i v row rows rest (second i row.0) refl (put_within a i v rows rest above)

  abbrev pub put_both : A → B → V → List (A × List (B × V)) → List (A × List (B × V))
  put_both a i v groups = put first a (put second i v (group_of a groups)) groups

  put_case : (a : A) (i : B) (v : V) (group : A × List (B × V)) (groups : List (A × List (B × V)))
      (o : Ordering) → first a group.0 ≡ o → Rises first (group ∷ groups)
      → put (both first second) (a, i) v (flattened groups) ≡ flattened (put_both a i v groups)
      → put (both first second) (a, i) v (flattened (group ∷ groups))
      ≡ flattened (put_both a i v (group ∷ groups))
  put_case a i v group groups Less is r h =
      let above : AllAbove first a groups =
      laying.above_trans first total exact a group.0 groups is r.0 in
      let none : group_of a (group ∷ groups) ≡ [] = group_past a group groups Less is refl
      ∙ group_absent a groups (keyed.none_above first a groups above) in
      keyed.put_in_front (both first second) (a, i) v (flattened (group ∷ groups))
      (above_groups a i (group ∷ groups) (is, above))
      ∙ ap flattened (sym (ap (λ (rows : List (B × V)). put first a (put second i v rows)
      (group ∷ groups)) none ∙ keyed.put_before first a ((i, v) ∷ []) group groups is))
  put_case a i v group groups Equal is r h =
      let above : AllAbove first a groups =
      keyed.same_above first total exact a group groups is r in
      ap (λ (b : A). put (both first second) (a, i) v (under_first b group.1 ++ flattened groups))
      (sym (exact a group.0 is))
      ∙ put_within a i v group.1 (flattened groups) (above_groups a i groups above)
      ∙ ap flattened (sym (ap (λ (rows : List (B × V)).
      put first a (put second i v rows) (group ∷ groups)) (group_here a group groups is)
      ∙ keyed.put_here first a (put second i v group.1) group groups is))
  put_case a i v group groups Greater is r h =
      put_past a group.0 i v group.1 (flattened groups) is
      ∙ ap (λ (xs : List ((A × B) × V)). under_first group.0 group.1 ++ xs) h
      ∙ ap flattened (sym (ap (λ (rows : List (B × V)). put first a (put second i v rows)
      (group ∷ groups)) (group_past a group groups Greater is refl)
      ∙ keyed.put_behind first a (put second i v (group_of a groups)) group groups is))

  pub put_flattened : (a : A) (i : B) (v : V) (groups : List (A × List (B × V)))
      → Rises first groups
      → put (both first second) (a, i) v (flattened groups) ≡ flattened (put_both a i v groups)
  put_flattened a i v [] r = refl
  put_flattened a i v (group ∷ groups) r =
      put_case a i v group groups (first a group.0) refl r (put_flattened a i v groups r.1)

  -- what is changed
  changed_past : (f : V → V) (a b : A) (i : B) (rows : List (B × V)) (o : Ordering)
      → first a b ≡ o → is_eq o ≡ false
      → changed_at (both first second) f (a, i) (under_first b rows) ≡ under_first b rows
  changed_past f a b i [] o is h = refl
  changed_past f a b i (row ∷ rows) o is h =
      keyed.left_alone (both first second) f (a, i) ((b, row.0), row.1) (under_first b rows) o
      (stand_apart first second total exact a b i row.0 o is h) h
      ∙ ap (λ (xs : List ((A × B) × V)). ((b, row.0), row.1) ∷ xs)
      (changed_past f a b i rows o is h)

  abbrev under : A → B × V → (A × B) × V
  under a row = ((a, row.0), row.1)

  paired : (a : A) (f : V → V) (row : B × V) (b : Bool)
      → cond b (under a (row.0, f row.1)) (under a row) ≡ under a (cond b (row.0, f row.1) row)
  paired a f row true = refl
  paired a f row false = refl

  changed_within : (f : V → V) (a : A) (i : B) (rows : List (B × V)) → changed_at (both first
      second) f (a, i) (under_first a rows) ≡ under_first a (changed_at second f i rows)
  changed_within f a i [] = refl
  changed_within f a i (row ∷ rows) =
      ap (λ (o : Ordering). cond (is_eq o) ((a, row.0), f row.1) ((a, row.0), row.1)
      ∷ changed_at (both first second) f (a, i) (under_first a rows))
      (stand_so first second total exact a i row.0)
      ∙ ap (λ (x : (A × B) × V). x ∷ changed_at (both first second) f (a, i) (under_first a rows))
      (paired a f row (is_eq (second i row.0)))
      ∙ ap (λ (xs : List ((A × B) × V)). under a
      (cond (is_eq (second i row.0)) (row.0, f row.1) row) ∷ xs) (changed_within f a i rows)

  -- the change under both parts, as a change under the first
  abbrev pub change_both : (V → V) → A → B → List (A × List (B × V)) → List (A × List (B × V))
  change_both f a i groups = changed_at first (changed_at second f i) a groups

  change_case : (f : V → V) (a : A) (i : B) (group : A
      × List (B × V)) (groups : List (A × List (B × V))) (o : Ordering) → first a group.0 ≡ o
      → changed_at (both first second) f (a, i) (flattened groups)
      ≡ flattened (change_both f a i groups)
      → changed_at (both first second) f (a, i) (under_first group.0 group.1) ++ changed_at (both
      first second) f (a, i) (flattened groups) ≡ flattened (change_both f a i (group ∷ groups))
  change_case f a i group groups Less is h =
      ap (λ (xs : List ((A × B) × V)). xs ++ changed_at (both first second) f (a, i)
      (flattened groups)) (changed_past f a group.0 i group.1 Less is refl)
      ∙ ap (λ (xs : List ((A × B) × V)). under_first group.0 group.1 ++ xs) h
      ∙ ap flattened
      (sym (keyed.left_alone first (changed_at second f i) a group groups Less is refl))
  change_case f a i group groups Equal is h =
      let same : a ≡ group.0 = exact a group.0 is in
      ap (λ (b : A). changed_at (both first second) f (a, i) (under_first b group.1)
      ++ changed_at (both first second) f (a, i) (flattened groups)) (sym same)
      ∙ ap (λ (xs : List ((A × B) × V)). xs ++ changed_at (both first second) f (a, i)
      (flattened groups)) (changed_within f a i group.1)
      ∙ ap (λ (xs : List ((A × B) × V)). under_first a (changed_at second f i group.1) ++ xs) h
      ∙ ap (λ (b : A). under_first b (changed_at second f i group.1)
      ++ flattened (change_both f a i groups)) same
      ∙ ap flattened (sym (keyed.changed_here first (changed_at second f i) a group groups is))
  change_case f a i group groups Greater is h =
      ap (λ (xs : List ((A × B) × V)). xs ++ changed_at (both first second) f (a, i)
      (flattened groups)) (changed_past f a group.0 i group.1 Greater is refl)
      ∙ ap (λ (xs : List ((A × B) × V)). under_first group.0 group.1 ++ xs) h
      ∙ ap flattened
      (sym (keyed.left_alone first (changed_at second f i) a group groups Greater is refl))

  pub changed_flattened : (f : V → V) (a : A) (i : B) (groups : List (A × List (B × V)))
      → changed_at (both first second) f (a, i) (flattened groups)
      ≡ flattened (change_both f a i groups)
  changed_flattened f a i [] = refl
  changed_flattened f a i (group ∷ groups) =
      map-append (λ (row : (A × B) × V). cond (is_eq (both first second (a, i) row.0))
      (row.0, f row.1) row) (under_first group.0 group.1) (flattened groups)
      ∙ change_case f a i group groups (first a group.0) refl (changed_flattened f a i groups)
