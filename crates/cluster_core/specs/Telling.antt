-- What the replies of a run tell of transactions.
use Rattle.std.specs.Prelude.{◌≡◌, ◌⊎◌, ℕ, ℤ, Bool, true, false, List, filter_map, Option}
use Rattle.std.specs.Prelude.{Some, None, All, Contains, Ok, Err, IsOk}
use Rattle.txn_types.specs.declared.cause.Cause.{Cause}
use Rattle.txn_types.specs.declared.cause.Cause.TheVariants as cause
use Rattle.txn_types.specs.declared.decision.Token.{Token}
use Rattle.txn_types.specs.declared.names.Tag.{Tag}
use Rattle.txn_semantics.specs.declared.commits.Answered.{Answered}
use Rattle.client_cmd.specs.declared.request.Request.{Request}
use Rattle.client_cmd.specs.declared.request.Request.TheVariants as request
use Rattle.client_reply.specs.declared.reply.Refusal.TheVariants as refusal
use Rattle.client_reply.specs.declared.reply.Reply.{Reply}
use Rattle.client_reply.specs.declared.reply.Reply.TheVariants as reply
use Rattle.router_rules.specs.Statements.{reply_of}
use Rattle.txn_model.specs.declared.ran.Ran.{Ran}
use Rattle.router_state.specs.State.{RouterState}
use Rattle.cluster_core.specs.Replying.{Hand, Replied}
use Rattle.cluster_core.specs.Ledger.{all_replied}

-- that a commit was done; that the transaction is aborted; or why a shard refused or ended it
pub data Meant : Type 0 where
  Done : Meant
  Undone : Meant
  Caused : (shard : ℕ) → (cause : Cause) → Meant

-- what is told of a transaction, and the place of the reply in the run
pub record Telling : Type 0 where
  pub place : ℕ
  pub tag : Tag
  pub meant : Meant

-- A commit is tried by `commitTransaction`, and by a command by itself, whose reply tells that it
-- is done.

abbrev pub is_attempt : Request → Bool
is_attempt (request.Statement op None at after more time) = true
is_attempt (request.Commit txn t more time) = true
is_attempt other = false

abbrev pub is_abort : Request → Bool
is_abort (request.Abort txn more time) = true
is_abort other = false

abbrev pub done_where : Bool → Option Meant
done_where true = Some Done
done_where false = None

abbrev pub ended_as : Request → Option Meant
ended_as (request.Commit txn t more time) = Some Done
ended_as (request.Abort txn more time) = Some Undone
ended_as other = None

-- what a reply to a request tells
abbrev pub meant_by : Request → Reply → Option Meant
meant_by asked (reply.Wrote n modified t) = done_where (is_attempt asked)
meant_by asked (reply.Found ns docs t) = done_where (is_attempt asked)
meant_by asked (reply.Ended t) = ended_as asked
meant_by asked (reply.Caused shard number why) = Some (Caused shard why)
meant_by asked (reply.Refused refusal.Aborted) = Some Undone
meant_by asked other = None

abbrev pub telling_by : ℕ → Option Tag → Option Meant → Option Telling
telling_by place (Some tag) (Some meant) = Some (record { place = place; tag = tag; meant = meant })
telling_by place tag meant = None

abbrev pub telling_of : Replied → Option Telling
telling_of r = telling_by r.place r.hand.tag (meant_by r.hand.request r.reply)

-- what a run told of transactions, in its order
abbrev pub told_in : List RouterState → List Ran → List Telling
told_in routers run = filter_map telling_of (all_replied routers run)

-- The reply to a statement that a run answered is what it was answered.

abbrev pub Tells : Answered → Reply → Type 0
Tells a r = elim (a.outcome) [
  | Ok done ↦ (t : Option Token) × (r ≡ reply_of a.op done t)
  | Err err ↦ (shard : ℕ) × (number : ℤ) × (r ≡ reply.Caused shard number (cause.Statement err))
]

abbrev pub IsOf : Hand → Answered → Type 0
IsOf h a = (h.tag ≡ Some a.tag) × (h.k ≡ a.k)

abbrev pub HasAnswered : List Answered → Hand → Reply → Type 0
HasAnswered answered h r = (a : Answered) × Contains answered a × IsOf h a × Tells a r

-- a reply of counts or documents, one that these are too large, and one of the statement's own
-- refusal
abbrev pub IsTold : List Answered → Hand → Reply → Type 0
IsTold answered h (reply.Wrote n modified t) = HasAnswered answered h (reply.Wrote n modified t)
IsTold answered h (reply.Found ns docs t) = HasAnswered answered h (reply.Found ns docs t)
IsTold answered h (reply.Refused refusal.ReplyTooLarge) =
    HasAnswered answered h (reply.Refused refusal.ReplyTooLarge)
IsTold answered h (reply.Caused shard number (cause.Statement err)) =
    HasAnswered answered h (reply.Caused shard number (cause.Statement err))
IsTold answered h other = Unit {0}

-- it was answered as done
abbrev pub WasDone : List Answered → Hand → Type 0
WasDone answered h =
    (a : Answered) × Contains answered a × IsOf h a × IsOk a.outcome

-- Of a command by itself, whose commit its router asks for: where that was done, its commit may be
-- told why its shard refuses the statement's repeat. (A shard that started again has lost what the
-- statement did; a repeat of it is then refused by its meaning, and so is the commit.)
abbrev pub IsToldAlone : List Answered → Hand → Reply → Type 0
IsToldAlone answered h (reply.Caused shard number (cause.Statement err)) =
    HasAnswered answered h (reply.Caused shard number (cause.Statement err)) ⊎ WasDone answered h
IsToldAlone answered h other = IsTold answered h other

-- of a statement; a commit may be told a refusal that a shard kept
abbrev pub IsToldTo : List Answered → Hand → Request → Reply → Type 0
IsToldTo answered h (request.Statement op None at after more time) r = IsToldAlone answered h r
IsToldTo answered h (request.Statement op (Some txn) at after more time) r = IsTold answered h r
IsToldTo answered h other r = Unit {0}

abbrev pub ToldRight : List Answered → List Replied → Type 0
ToldRight answered replied = All (λ r. IsToldTo answered r.hand r.hand.request r.reply) replied
