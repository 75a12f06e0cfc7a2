-- A coordination that begins, with the router that waits for its decision.
use Rattle.std.proofs.Common.{◌≡◌, ℕ, List, [], ◌∷◌, Option, Some, None, MatchOption, refl, ap, ◌∙◌}
use Rattle.std.specs.Cmp.{IsTotalOrder}
use Rattle.std.specs.declared.cmp.Ordering.{Ordering}
use Rattle.std.specs.declared.cmp.Ordering.TheVariants.{Less, Equal, Greater}
use Rattle.std.proofs.lemmas.Map.Lookups.{CmpEqualImpliesEq}
use Rattle.txn_types.proofs.Orders.{tag_total, tag_exact}
use Rattle.txn_types.specs.Order.{tag_cmp}
use Rattle.txn_types.specs.declared.names.Tag.{Tag}
use Rattle.txn_semantics.specs.Keyed.{put}
use Rattle.txn_semantics.proofs.Laying as laying
use Rattle.coordinator.specs.TwoPhase.{Coordinations, Coordinated, coordinated_of, with_coordinated}
use Rattle.coordinator.specs.TwoPhase.{undecided, with_asker, started, asked}
use Rattle.coordinator.specs.declared.plan.Plan.{Plan}
use Rattle.coordinator.proofs.Found.{at_the_tag}

module _ {K A : Type 0} (cmp : K → K → Ordering) (total : IsTotalOrder cmp)
    (exact : CmpEqualImpliesEq cmp) where
  at_front : (key : K) (a b : A) (rows : List (K × A))
      → put cmp key a ((key, b) ∷ rows) ≡ (key, a) ∷ rows
  at_front key a b rows = rw (put, laying.cmp_self cmp total exact key) refl

  put_over_case : (key : K) (a b : A) (row : K × A) (rows : List (K × A)) (o : Ordering)
      → cmp key row.0 ≡ o → put cmp key a (put cmp key b rows) ≡ put cmp key a rows
      → put cmp key a (elim o [
        | Less ↦ (key, b) ∷ row ∷ rows
        | Equal ↦ (key, b) ∷ rows
        | Greater ↦ row ∷ put cmp key b rows
      ])
      ≡ elim o [
        | Less ↦ (key, a) ∷ row ∷ rows
        | Equal ↦ (key, a) ∷ rows
        | Greater ↦ row ∷ put cmp key a rows
      ]
  put_over_case key a b row rows Less is more = at_front key a b (row ∷ rows)
  put_over_case key a b row rows Equal is more = at_front key a b rows
  put_over_case key a b row rows Greater is more =
      rw (put, is) (ap (λ (rest : List (K × A)). row ∷ rest) more)

  -- what is put last stands
  pub put_over : (key : K) (a b : A) (rows : List (K × A))
      → put cmp key a (put cmp key b rows) ≡ put cmp key a rows
  put_over key a b [] = at_front key a b []
  put_over key a b (row ∷ rows) =
      put_over_case key a b row rows (cmp key row.0) refl (put_over key a b rows)

asked_there : (tag : Tag) (router : ℕ) (c : Coordinated) (o : Option Coordinated)
    (coords new : Coordinations) → o ≡ Some c
    → MatchOption o (new ≡ coords) (λ c. new ≡ asked tag router c coords)
    → new ≡ asked tag router c coords
asked_there tag router c None coords new is h = cc
asked_there tag router c (Some d) coords new is h = let e : d ≡ c = cc in
    h ∙ ap (λ (c : Coordinated). asked tag router c coords) e

pub begun_asked : (tag : Tag) (router : ℕ) (plan : Plan) (coords between new : Coordinations)
    → between ≡ started tag plan coords
    → MatchOption (coordinated_of between tag) (new ≡ between)
    (λ c. new ≡ asked tag router c between)
    → new ≡ with_coordinated tag (with_asker router (undecided plan)) coords
begun_asked tag router plan coords between new is h =
    let there : coordinated_of between tag ≡ Some (undecided plan) = ap (λ (coords : Coordinations).
    coordinated_of coords tag) is ∙ at_the_tag tag (undecided plan) coords in
    asked_there tag router (undecided plan) (coordinated_of between tag) between new there h
    ∙ ap (λ (coords : Coordinations). with_coordinated tag
    (with_asker router (undecided plan)) coords) is
    ∙ put_over tag_cmp tag_total tag_exact tag (with_asker router (undecided plan))
    (undecided plan) coords
