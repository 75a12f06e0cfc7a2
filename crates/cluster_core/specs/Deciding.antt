-- When all that a run told of a transaction agrees with the list of commits.
use Rattle.std.specs.Prelude.{◌≡◌, ◌<◌, ℕ, ◌+◌, ◌==◌, Bool, true, false, not, List, [], length}
use Rattle.std.specs.Prelude.{take, All, Contains, IsTrue, Option, Some, None, slice_get}
use Rattle.txn_types.specs.declared.decision.Token.{Token}
use Rattle.txn_types.specs.declared.decision.Told.TheVariants.{Released}
use Rattle.txn_types.specs.declared.event.Happening.TheVariants.{Deliver}
use Rattle.txn_types.specs.declared.event.NodeAnswer.{NodeAnswer}
use Rattle.txn_types.specs.declared.event.NodeEvent.{NodeEvent}
use Rattle.txn_types.specs.declared.message.Envelope.{Envelope}
use Rattle.txn_types.specs.declared.message.Msg.TheVariants as msg
use Rattle.txn_types.specs.declared.message.Outcome.{Outcome}
use Rattle.txn_types.specs.declared.message.Statement.{Statement}
use Rattle.txn_types.specs.declared.names.Tag.{Tag}
use Rattle.txn_types.specs.declared.node.NodeId.TheVariants.{Router}
use Rattle.txn_semantics.specs.Answers.{of_tag, own_writes}
use Rattle.txn_semantics.specs.declared.commits.Answered.{Answered}
use Rattle.txn_semantics.specs.declared.commits.Entry.{Entry}
use Rattle.client_cmd.specs.declared.request.Request.TheVariants as request
use Rattle.client_cmd.specs.declared.request.Txn.{Txn}
use Rattle.client_reply.specs.Replies.{token_in}
use Rattle.router_state.specs.State.{RouterState}
use Rattle.txn_model.specs.Commits.{has_entry}
use Rattle.txn_model.specs.declared.ran.Ran.{Ran}
use Rattle.txn_model.specs.declared.ran.Ran.TheVariants.{Step}
use Rattle.cluster_core.specs.Answering.{statements_in}
use Rattle.cluster_core.specs.Replying.{Hand, Replied, txn_of, held_in}
use Rattle.cluster_core.specs.Ledger.{Ledger, fresh_ledger, ledger_behind, all_replied}
use Rattle.cluster_core.specs.Telling.{Telling, Meant, Done, Undone, Caused}

-- its statements wrote something
abbrev pub has_written : List Entry → List Answered → Tag → Bool
has_written entries answered tag = not (length (own_writes entries [] (of_tag tag answered)) == 0)

-- among these steps its router sent a statement of it to the shard
pub record WasAsked (run : List Ran) (tag : Tag) (shard : ℕ) : Type 0 where
  pub place : ℕ
  pub event : NodeEvent
  pub answer : NodeAnswer
  pub faults : ℕ
  pub statement : Statement
  pub step : slice_get run place ≡ Some (Step (Router tag.router) event answer faults)
  pub sent : Contains (statements_in answer) (shard, statement)
  pub of : statement.tag ≡ tag

-- among these steps its router took the shard's outcome that it was released
pub record WasReleased (run : List Ran) (tag : Tag) (shard : ℕ) : Type 0 where
  pub place : ℕ
  pub wall : ℕ
  pub answer : NodeAnswer
  pub faults : ℕ
  pub envelope : Envelope
  pub outcome : Outcome
  pub step : slice_get run place ≡ Some (Step (Router tag.router)
      (record { wall = wall; what = Deliver envelope }) answer faults)
  pub msg : envelope.msg ≡ msg.Outcome outcome
  pub of : outcome.tag ≡ tag
  pub from : outcome.shard ≡ shard
  pub told : outcome.told ≡ Released

-- each participant has answered so
abbrev pub AllReleased : List Ran → Tag → Type 0
AllReleased run tag = (shard : ℕ) → WasAsked run tag shard → WasReleased run tag shard

-- What was told of a transaction: a commit that wrote has its entry, one without a write was
-- released by each participant before the reply, and one that is told as aborted, or with a cause,
-- has no entry.
abbrev pub Agrees : List Ran → List Entry → List Answered → ℕ → Tag → Meant → Type 0
Agrees run entries answered place tag Done =
    (has_written entries answered tag ≡ true → has_entry entries tag ≡ true)
    × (has_written entries answered tag ≡ false → AllReleased (take (place + 1) run) tag)
Agrees run entries answered place tag Undone = has_entry entries tag ≡ false
Agrees run entries answered place tag (Caused shard cause) = has_entry entries tag ≡ false

-- of transactions that began in this run; so no two attempts to commit one that wrote are told
-- different decisions
abbrev pub OneDecision : (Tag → Bool) → List Ran → List Entry → List Answered
    → List Telling → Type 0
OneDecision began run entries answered told =
    All (λ t. IsTrue (began t.tag) → Agrees run entries answered t.place t.tag t.meant) told

-- Tokens are handed back as they were told: each that commits a transaction which the asked router
-- hasn't begun stood in an earlier reply of the run to a request of the same session and number.
-- What is told of transactions rests on this.

pub record WasGiven (replied : List Replied) (place : ℕ) (txn : Txn) (t : Token) : Type 0 where
  pub earlier : Replied
  pub other : Txn
  pub stood : Contains replied earlier
  pub before : earlier.place < place
  pub names : txn_of earlier.hand.request ≡ Some other
  pub lsid : other.lsid ≡ txn.lsid
  pub number : other.number ≡ txn.number
  pub token : token_in earlier.reply ≡ Some t

abbrev pub held_by : Ledger → ℕ → NodeEvent → NodeAnswer → Option RouterState → List Hand
held_by l n e a None = []
held_by l n e a (Some r) = held_in n l.begun r e a l.hands

-- the requests that connections have in hand at a step, the one that it takes among them
abbrev pub held_at : Ledger → Ran → List Hand
held_at l (Step (Router n) e a faults) = held_by l n e a (slice_get l.routers n)
held_at l other = []

-- a request in hand that commits by a token
abbrev pub IsGiven : List Replied → ℕ → Hand → Type 0
IsGiven replied place h =
    (txn : Txn) (t : Token) (more : Bool) (time : Option ℕ)
    → h.request ≡ request.Commit (Some txn) (Some t) more time → h.here ≡ false
    → WasGiven replied place txn t

abbrev pub TokensGiven : List RouterState → List Ran → Type 0
TokensGiven routers run =
    (place : ℕ) (ran : Ran) → slice_get run place ≡ Some ran → All (IsGiven (all_replied routers
    run) place) (held_at (ledger_behind (fresh_ledger routers) (take place run)) ran)
