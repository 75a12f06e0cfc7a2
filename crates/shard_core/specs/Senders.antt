-- Who is told a decision: the routers that wait for it, and the participants.
use Rattle.std.specs.Prelude.{ℕ, Bool, false, Option, Some, None}
use Rattle.txn_types.specs.Letters.{Letter}
use Rattle.txn_types.specs.declared.decision.Decision.{Decision}
use Rattle.txn_types.specs.declared.message.Msg.TheVariants as msg
use Rattle.txn_types.specs.declared.names.Tag.{Tag}
use Rattle.txn_types.specs.declared.node.NodeId.TheVariants.{Router}
use Rattle.coordinator.specs.TwoPhase.{Coordinations, Coordinated, coordinated_of, is_asker}
use Rattle.shard_core.specs.Coordinating.{told_of}

-- the router waits for the decision, where the transaction is coordinated
abbrev pub waits_for : ℕ → Option Coordinated → Bool
waits_for router None = false
waits_for router (Some c) = is_asker router c

abbrev pub waits : Coordinations → Tag → ℕ → Bool
waits coords tag router = waits_for router (coordinated_of coords tag)

-- what a shard of this number and boot tells a router that waits
abbrev pub outcome_to : ℕ → ℕ → Tag → Decision → ℕ → Letter
outcome_to shard boot tag d router = (
  Router router,
  msg.Outcome (record { tag = tag; shard = shard; boot = boot; told = told_of d }),
)
