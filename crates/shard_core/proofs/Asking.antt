-- Who takes part in what a vote decides, and who waits for it.
use Rattle.std.proofs.Common.{◌≡◌, ℕ, List, Option, Some, None, option_map, IfSome, IsSomeAnd, sym}
use Rattle.txn_types.specs.declared.names.Tag.{Tag}
use Rattle.coordinator.specs.declared.plan.Plan.{Plan}
use Rattle.coordinator.specs.TwoPhase.{Coordinations, Coordinated, coordinated_of}

-- a transaction that is coordinated with this plan, for which these routers wait
abbrev pub IsPlanned : Option Coordinated → Plan → List ℕ → Type 0
IsPlanned o plan askers = IsSomeAnd o (λ c. (c.plan ≡ plan) × (c.askers ≡ askers))

-- with the copy of a plan, and those that wait
is_planned : (o : Option Coordinated) (plan : Plan) (askers : List ℕ)
    → Some plan ≡ option_map (λ (c : Coordinated). c.plan) o → IfSome o (λ c. askers ≡ c.askers)
    → IsPlanned o plan askers
is_planned None plan askers is waits = cc
is_planned (Some c) plan askers is waits = let same : c.plan ≡ plan = cc in (same, sym waits)

pub planned_here : (old new : Coordinations) (tag : Tag) (plan : Plan) (askers : List ℕ) → new ≡ old
    → Some plan ≡ option_map (λ (c : Coordinated). c.plan) (coordinated_of old tag)
    → IfSome (coordinated_of old tag) (λ c. askers ≡ c.askers)
    → IsPlanned (coordinated_of new tag) plan askers
planned_here old new tag plan askers same is waits =
    rw same (is_planned (coordinated_of old tag) plan askers is waits)
