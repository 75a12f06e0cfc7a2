-- What holds of each view, and sums over all views, after a change of one.
use Rattle.std.proofs.Common.{◌≡◌, ◌≢◌, ℕ, zero, suc, ◌+◌, ◌≤◌, List, [], ◌∷◌, ◌++◌, set, refl, sym}
use Rattle.std.proofs.Common.{ap, subst, ⊎_elim, arith}
use mathlib.Core.Option.{some, some-injective, some-ne-none}
use lib.ListN.{get_elem?}
use Rattle.atomic_table.proofs.Lists.{at_set, at_snoc}
use Rattle.node_lock.specs.Rule.{total}

module _ {V : Type 0} where
  pub total_set : (f : V → ℕ) (views : List V) (j : ℕ) (v w : V) → get_elem? views j ≡ some v
      → total f (set views j w) + f v ≡ total f views + f w
  total_set f [] j v w e = absurd (some-ne-none v (sym e))
  total_set f (x ∷ xs) zero v w e = let same : f x ≡ f v = ap f (some-injective x v e) in
      omega (arith, same)
  total_set f (x ∷ xs) (suc j) v w e = let ih = total_set f xs j v w e in omega (arith, ih)

  pub total_has : (f : V → ℕ) (views : List V) (j : ℕ) (v : V) → get_elem? views j ≡ some v
      → f v ≤ total f views
  total_has f [] j v e = absurd (some-ne-none v (sym e))
  total_has f (x ∷ xs) zero v e = let same : f x ≡ f v = ap f (some-injective x v e) in
      omega (arith, same)
  total_has f (x ∷ xs) (suc j) v e = let ih = total_has f xs j v e in omega (arith, ih)

  pub total_below : (f g : V → ℕ) (views : List V)
      → ((j : ℕ) (v : V) → get_elem? views j ≡ some v → f v ≤ g v) → total f views ≤ total g views
  total_below f g [] h = omega arith
  total_below f g (x ∷ xs) h = let here = h zero x refl in
      let ih = total_below f g xs (λ j v e. h (suc j) v e) in omega (arith, here, ih)

  pub total_snoc : (f : V → ℕ) (views : List V) (v : V)
      → total f (views ++ v ∷ []) ≡ total f views + f v
  total_snoc f [] v = omega arith
  total_snoc f (x ∷ xs) v = let ih = total_snoc f xs v in omega (arith, ih)

  -- g is nothing wherever f is
  abbrev pub Follows : (V → ℕ) → (V → ℕ) → List V → Type 0
  Follows f g views = (j : ℕ) (v : V) → get_elem? views j ≡ some v → f v ≡ 0 → g v ≡ 0

  total_nothing : (f g : V → ℕ) (views : List V) → Follows f g views → total f views ≡ 0
      → total g views ≡ 0
  total_nothing f g [] h e = refl
  total_nothing f g (x ∷ xs) h e =
      let here : g x ≡ 0 = h zero x refl (omega (arith, e)) in
      let ih = total_nothing f g xs (λ j v at. h (suc j) v at) (omega (arith, e)) in
      omega (arith, here, ih)

  -- the view that has all of f has all of g
  pub total_alone : (f g : V → ℕ) (views : List V) (j : ℕ) (v : V) → get_elem? views j ≡ some v
      → Follows f g views → total f views ≡ f v → total g views ≡ g v
  total_alone f g [] j v at h e = absurd (some-ne-none v (sym at))
  total_alone f g (x ∷ xs) zero v at h e =
      let fx : f x ≡ f v = ap f (some-injective x v at) in
      let gx : g x ≡ g v = ap g (some-injective x v at) in
      let others = total_nothing f g xs (λ j u e'. h (suc j) u e') (omega (arith, e, fx)) in
      omega (arith, gx, others)
  total_alone f g (x ∷ xs) (suc j) v at h e =
      let has = total_has f xs j v at in
      let here : g x ≡ 0 = h zero x refl (omega (arith, has, e)) in
      let ih = total_alone f g xs j v at (λ k u e'. h (suc k) u e') (omega (arith, has, e)) in
      omega (arith, here, ih)

  abbrev pub Each : (ℕ → V → Type 0) → List V → Type 0
  Each P views = (j : ℕ) (v : V) → get_elem? views j ≡ some v → P j v

  pub each_set : (P : ℕ → V → Type 0) (views : List V) (id : ℕ) (w : V) → ((j : ℕ) (v : V) → j ≢ id
      → get_elem? views j ≡ some v → P j v) → P id w → Each P (set views id w)
  each_set P views id w others mine j v e =
      ⊎_elim
      (λ (x : (j ≡ id) × (w ≡ v)). subst (λ (y : ℕ × V). P y.0 y.1) (λ i. (sym x.0 i, x.1 i)) mine)
      (λ (x : (j ≢ id) × (get_elem? views j ≡ some v)). others j v x.0 x.1)
      (at_set views id j w v e)

  pub each_snoc : (P : ℕ → V → Type 0) (views : List V) (w : V) → Each P views → ((j : ℕ) → P j w)
      → Each P (views ++ w ∷ [])
  each_snoc P views w old new j v e =
      ⊎_elim (λ at. old j v at) (λ same. subst (P j) same (new j)) (at_snoc views w v j e)

  pub set_at : (l : List V) (i : ℕ) (a b : V) → get_elem? l i ≡ some a
      → get_elem? (set l i b) i ≡ some b
  set_at [] i a b e = absurd (some-ne-none a (sym e))
  set_at (x ∷ xs) zero a b e = refl
  set_at (x ∷ xs) (suc i) a b e = set_at xs i a b e
