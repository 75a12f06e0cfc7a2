-- What is sent and kept about the ends of transactions.
use Rattle.std.specs.Prelude.{◌≡◌, ℕ, true, false, List, Contains, Some, slice_get}
use Rattle.txn_types.specs.declared.decision.Told.{Told}
use Rattle.txn_types.specs.declared.decision.Told.TheVariants as told_as
use Rattle.txn_types.specs.declared.message.Commit.{Commit}
use Rattle.txn_types.specs.declared.message.Envelope.{Envelope}
use Rattle.txn_types.specs.declared.message.Msg.{Msg}
use Rattle.txn_types.specs.declared.message.Msg.TheVariants as msg
use Rattle.txn_types.specs.declared.names.Tag.{Tag}
use Rattle.txn_types.specs.declared.node.Lsid.{Lsid}
use Rattle.txn_semantics.specs.declared.commits.Entry.{Entry}
use Rattle.router_state.specs.declared.state.Doing.TheVariants.{Begun}
use Rattle.router_state.specs.declared.state.Phase.{Phase}
use Rattle.router_state.specs.declared.state.Phase.TheVariants.{Idle, Asking, Aborted}
use Rattle.router_state.specs.declared.state.Session.{Session}
use Rattle.router_state.specs.declared.state.Transaction.{Transaction}
use Rattle.router_state.specs.State.{RouterState, session_of}
use Rattle.txn_model.specs.Commits.{has_entry}
use Rattle.cluster_core.specs.Nodes.{Nodes}

-- a request to commit it was sent
abbrev pub WasSent : List Envelope → Commit → Type 0
WasSent sent m = (e : Envelope) × Contains sent e × (e.msg ≡ msg.Commit m)

-- all requests to commit one transaction name one boot of the shard
abbrev pub NameOneBoot : List Envelope → Type 0
NameOneBoot sent =
    (a b : Commit) → WasSent sent a → WasSent sent b → a.tag ≡ b.tag → a.boot ≡ b.boot

-- no request to commit the transaction was sent
abbrev pub NoneSent : List Envelope → Tag → Type 0
NoneSent sent tag = (m : Commit) → WasSent sent m → m.tag ≡ tag → ⊥

abbrev pub IsAborted : Phase → Type 0
IsAborted (Aborted sent) = Unit {0}
IsAborted other = ⊥

-- its router has the transaction, as aborted, and hasn't asked to commit it
pub record IsLost (nodes : Nodes) (tag : Tag) : Type 0 where
  pub n : ℕ
  pub router : RouterState
  pub there : slice_get nodes.routers n ≡ Some router
  pub lsid : Lsid
  pub session : Session
  pub in_it : session_of router lsid ≡ Some session
  pub t : Transaction
  pub doing : session.doing ≡ Begun t
  pub tag_is : t.tag ≡ tag
  pub aborted : IsAborted t.phase
  pub unsent : NoneSent nodes.sent tag

-- what is told as committed is in the list of commits

abbrev pub IsThere : List Entry → Tag → Told → Type 0
IsThere entries tag (told_as.Committed at) = has_entry entries tag ≡ true
IsThere entries tag other = Unit {0}

abbrev pub TellsRight : List Entry → Msg → Type 0
TellsRight entries (msg.Outcome o) = IsThere entries o.tag o.told
TellsRight entries other = Unit {0}

-- what is told as aborted is not

abbrev pub IsNever : List Entry → Tag → Told → Type 0
IsNever entries tag (told_as.Aborted why) = has_entry entries tag ≡ false
IsNever entries tag other = Unit {0}

abbrev pub TellsNever : List Entry → Msg → Type 0
TellsNever entries (msg.Outcome o) = IsNever entries o.tag o.told
TellsNever entries other = Unit {0}

-- no request to commit it was made
abbrev pub IsUnasked : Phase → Type 0
IsUnasked Idle = Unit {0}
IsUnasked (Asking asker op answers) = Unit {0}
IsUnasked other = ⊥

-- at a step the transaction's router ends it before it asks to commit it
pub record IsEnded (old new : Nodes) (tag : Tag) : Type 0 where
  pub n : ℕ
  pub before : RouterState
  pub there : slice_get old.routers n ≡ Some before
  pub lsid : Lsid
  pub session : Session
  pub in_it : session_of before lsid ≡ Some session
  pub t : Transaction
  pub doing : session.doing ≡ Begun t
  pub tag_is : t.tag ≡ tag
  pub unasked : IsUnasked t.phase
  pub after : RouterState
  pub there_after : slice_get new.routers n ≡ Some after
  pub lsid_after : Lsid
  pub session_after : Session
  pub in_after : session_of after lsid_after ≡ Some session_after
  pub t_after : Transaction
  pub doing_after : session_after.doing ≡ Begun t_after
  pub tag_after : t_after.tag ≡ tag
  pub aborted : IsAborted t_after.phase
