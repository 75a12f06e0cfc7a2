-- What stands at the routers of a cluster of one shard, so that none asks for a commit of several:
-- of each transaction at most the one shard wrote, and at most its answer is kept.
use Rattle.std.specs.Prelude.{◌≡◌, ◌⊎◌, ℕ, List, [], ◌∷◌, All, Some, slice_get}
use Rattle.txn_types.specs.declared.message.Answer.{Answer}
use Rattle.router_state.specs.declared.deed.Deed.{Deed}
use Rattle.router_state.specs.declared.deed.Given.{Given}
use Rattle.router_state.specs.declared.state.Doing.{Doing}
use Rattle.router_state.specs.declared.state.Doing.TheVariants.{Begun, Sought}
use Rattle.router_state.specs.declared.state.Phase.{Phase}
use Rattle.router_state.specs.declared.state.Phase.TheVariants.{Asking}
use Rattle.router_state.specs.declared.state.Transaction.{Transaction}
use Rattle.router_state.specs.Deeds.{Move}
use Rattle.router_state.specs.State.{Post, RouterState}
use Rattle.cluster_core.specs.Nodes.{Nodes}
use Rattle.one_shard_laws.specs.Alone.{IsAskedAlone}

abbrev pub AllAsk : List Post → Type 0
AllAsk posts = All (λ post. IsAskedAlone post.1) posts

-- the first shard, or none
abbrev pub OneWrote : List ℕ → Type 0
OneWrote shards = (shards ≡ []) ⊎ (shards ≡ 0 ∷ [])

abbrev pub OneAnswer : List (ℕ × Answer) → Type 0
OneAnswer answers = (answers ≡ []) ⊎ ((a : Answer) × (answers ≡ (0, a) ∷ []))

abbrev pub PhaseAsks : Phase → Type 0
PhaseAsks (Asking asker op answers) = OneAnswer answers
PhaseAsks other = Unit {0}

pub record TxnAsks (t : Transaction) : Type 0 where
  pub waiting : AllAsk t.waiting
  pub wrote : OneWrote t.wrote
  pub phase : PhaseAsks t.phase

abbrev pub DoingAsks : Doing → Type 0
DoingAsks (Begun t) = TxnAsks t
DoingAsks (Sought seeking known) = Unit {0}

abbrev pub RouterAsks : RouterState → Type 0
RouterAsks s = All (λ entry. DoingAsks entry.1.doing) s.sessions

pub record GivenAsks (g : Given) : Type 0 where
  pub aborts : AllAsk g.aborts
  pub sends : AllAsk g.sends

pub record DeedAsks (d : Deed) : Type 0 where
  pub doing : DoingAsks d.session.doing
  pub given : GivenAsks d.given

pub record MoveAsks (m : Move) : Type 0 where
  pub state : RouterAsks m.state
  pub given : GivenAsks m.given

abbrev pub AllRoutersAsk : Nodes → Type 0
AllRoutersAsk nodes = (number : ℕ) (r : RouterState) → slice_get nodes.routers number ≡ Some r
    → RouterAsks r
