-- What a router's session knows of the writes of its transaction: that there is one, where an
-- Answer that it was given tells of one.
use Rattle.std.specs.Prelude.{◌≡◌, ℕ, true, List, [], ◌∷◌, Contains, Some, Ok, slice_get}
use Rattle.txn_types.specs.declared.message.Answer.{Answer}
use Rattle.txn_types.specs.declared.message.Commit.{Commit}
use Rattle.txn_types.specs.declared.message.Envelope.{Envelope}
use Rattle.txn_types.specs.declared.names.Tag.{Tag}
use Rattle.txn_types.specs.declared.node.Lsid.{Lsid}
use Rattle.txn_types.specs.declared.operation.OpReply.{OpReply}
use Rattle.router_state.specs.declared.state.Doing.{Doing}
use Rattle.router_state.specs.declared.state.Doing.TheVariants.{Begun, Sought}
use Rattle.router_state.specs.declared.state.Phase.{Phase}
use Rattle.router_state.specs.declared.state.Phase.TheVariants.{Aborted}
use Rattle.router_state.specs.declared.state.Session.{Session}
use Rattle.router_state.specs.State.{RouterState, session_of}
use Rattle.cluster_core.specs.Answering.{Unanswered}
use Rattle.cluster_core.specs.Nodes.{Nodes}
use Rattle.decision_laws.specs.Ends.{WasSent}

-- the one Answer to the statement tells that it wrote
abbrev pub TellsWrite : Unanswered → Type 0
TellsWrite u = (a : Answer) × (u.answers ≡ (0, a) ∷ [])
    × ((reply : OpReply) × (a.outcome ≡ Ok (reply, true)))

-- these shards aren't none, where a completed statement of the transaction wrote
abbrev pub KnowsWrites : List Unanswered → Tag → List ℕ → Type 0
KnowsWrites completed tag wrote = (u : Unanswered) → Contains completed u → u.tag ≡ tag
    → TellsWrite u → wrote ≡ [] → ⊥

-- of one that is aborted this is so where its commit was sent
abbrev pub PhaseKnowsWrites : List Unanswered → List Envelope → Tag → List ℕ → Phase → Type 0
PhaseKnowsWrites completed sent tag wrote (Aborted past) =
    (c : Commit) → WasSent sent c → c.tag ≡ tag → KnowsWrites completed tag wrote
PhaseKnowsWrites completed sent tag wrote other = KnowsWrites completed tag wrote

abbrev pub DoingKnowsWrites : List Unanswered → List Envelope → Doing → Type 0
DoingKnowsWrites completed sent (Begun t) =
    PhaseKnowsWrites completed sent t.tag t.wrote t.phase
DoingKnowsWrites completed sent (Sought seeking known) = Unit {0}

-- of each session of each router
abbrev pub RoutersKnowWrites : List Unanswered → Nodes → Type 0
RoutersKnowWrites completed nodes = (n : ℕ) (r : RouterState)
    → slice_get nodes.routers n ≡ Some r → (lsid : Lsid) (s : Session)
    → session_of r lsid ≡ Some s → DoingKnowsWrites completed nodes.sent s.doing
