use Rattle.std.proofs.Common.{◌≡◌, ℕ, List, ◌∷◌, sym, ap, ◌∙◌}
use Rattle.atomic_table.specs.Table.{rest}
use Rattle.node_lock.proofs.lock.NodeLock+M.run.Goals as goal

-- a seat that has put something into its slot holds the slot
module _ {X V : Type 0} where
  after_one : (m : V × List (ℕ × X)) (v : V) (x : X) (xs : List (ℕ × X)) → m ≡ (v, (0, x) ∷ xs)
      → (y : X) × (m.1 ≡ (0, y) ∷ rest m.1)
  after_one m v x xs e = (
    x,
    ap (λ (n : V × List (ℕ × X)). n.1) e ∙ ap (λ (n : V × List (ℕ × X)). (0, x) ∷ rest n.1) (sym e),
  )

pub exchange-blank-requires : goal.exchange-blank-requires
exchange-blank-requires g c = (cc, after_one _ _ _ _ c.exchange-kept.ensures.3)
