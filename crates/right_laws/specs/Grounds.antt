-- What each telling of a run rests on, on one shard.
use Rattle.std.specs.Prelude.{◌≡◌, ◌⊎◌, ◌+◌, ◌++◌, ◌∷◌, [], ℕ, true, false, List, All, Contains}
use Rattle.std.specs.Prelude.{take, Some, slice_get}
use Rattle.txn_types.specs.declared.cause.Cause.{Cause}
use Rattle.txn_types.specs.declared.decision.Told.TheVariants as told_as
use Rattle.txn_types.specs.declared.message.Envelope.{Envelope}
use Rattle.txn_types.specs.declared.message.Msg.TheVariants as msg
use Rattle.txn_types.specs.declared.message.Outcome.{Outcome}
use Rattle.txn_types.specs.declared.names.Tag.{Tag}
use Rattle.txn_types.specs.declared.node.Lsid.{Lsid}
use Rattle.router_state.specs.declared.state.Doing.TheVariants.{Begun}
use Rattle.router_state.specs.declared.state.Phase.TheVariants.{Aborted}
use Rattle.router_state.specs.declared.state.Session.{Session}
use Rattle.router_state.specs.declared.state.Transaction.{Transaction}
use Rattle.router_state.specs.State.{RouterState, session_of}
use Rattle.txn_model.specs.Commits.{has_entry}
use Rattle.txn_model.specs.declared.ran.Ran.{Ran}
use Rattle.cluster_core.specs.Deciding.{AllReleased, WasReleased}
use Rattle.cluster_core.specs.Nodes.{Nodes, commits_of}
use Rattle.cluster_core.specs.Telling.{Telling, Meant, Done, Undone, Caused}

-- the shard told it as aborted
pub record WasToldAborted (sent : List Envelope) (tag : Tag) : Type 0 where
  pub envelope : Envelope
  pub outcome : Outcome
  pub cause : Cause
  pub among : Contains sent envelope
  pub msg : envelope.msg ≡ msg.Outcome outcome
  pub of : outcome.tag ≡ tag
  pub told : outcome.told ≡ told_as.Aborted cause

-- its router took its release by the shard, and so by each participant
abbrev pub IsReleased : List Ran → Tag → Type 0
IsReleased run tag = WasReleased run tag 0 × AllReleased run tag

-- in a state of the run its router has it as aborted, after its commit was sent, and knows of no
-- write of it
pub record IsWriteless (states : List Nodes) (tag : Tag) : Type 0 where
  pub place : ℕ
  pub nodes : Nodes
  pub at : slice_get states place ≡ Some nodes
  pub n : ℕ
  pub router : RouterState
  pub there : slice_get nodes.routers n ≡ Some router
  pub lsid : Lsid
  pub session : Session
  pub in_it : session_of router lsid ≡ Some session
  pub t : Transaction
  pub doing : session.doing ≡ Begun t
  pub of : t.tag ≡ tag
  pub aborted : t.phase ≡ Aborted true
  pub wrote : t.wrote ≡ []

-- A commit that is told as done is in the list of commits, or was released before the reply. What
-- is told as aborted, or with a cause, isn't in it, or the shard told it as aborted. What its
-- router knows of no write of may also be told as aborted where the shard told of a larger number
-- of its session.
abbrev pub GroundOf : List Ran → List Nodes → Nodes → ℕ → Tag → Meant → Type 0
GroundOf run states now place tag Done =
    (has_entry (commits_of now) tag ≡ true) ⊎ IsReleased (take (place + 1) run) tag
GroundOf run states now place tag Undone =
    (has_entry (commits_of now) tag ≡ false)
    ⊎ (WasToldAborted now.sent tag ⊎ IsWriteless states tag)
GroundOf run states now place tag (Caused shard cause) =
    (has_entry (commits_of now) tag ≡ false) ⊎ WasToldAborted now.sent tag

abbrev pub AllGrounded : List Ran → List Nodes → Nodes → List Telling → Type 0
AllGrounded run trace now told =
    All (λ t. GroundOf run (trace ++ now ∷ []) now t.place t.tag t.meant) told
