-- What stands beside `RoutersAsk`: no message that a router waits to be answered is one of a shard.
use Rattle.std.specs.Prelude.{◌≡◌, ℕ, List, All, Some, slice_get}
use Rattle.router_state.specs.declared.state.Doing.{Doing}
use Rattle.router_state.specs.declared.state.Doing.TheVariants.{Begun, Sought}
use Rattle.router_state.specs.State.{Post, RouterState}
use Rattle.router_state.specs.declared.deed.Given.{Given}
use Rattle.router_state.specs.declared.deed.Deed.{Deed}
use Rattle.router_state.specs.Deeds.{Move}
use Rattle.cluster_core.specs.Nodes.{Nodes}
use Rattle.world_laws.specs.ReadTimes.{IsAsked}

abbrev pub AllAsk : List Post → Type 0
AllAsk posts = All (λ post. IsAsked post.1) posts

abbrev pub DoingAsks : Doing → Type 0
DoingAsks (Begun t) = AllAsk t.waiting
DoingAsks (Sought seeking known) = Unit {0}

abbrev pub RouterAsks : RouterState → Type 0
RouterAsks s = All (λ entry. DoingAsks entry.1.doing) s.sessions

pub record GivenAsks (g : Given) : Type 0 where
  pub aborts : AllAsk g.aborts
  pub sends : AllAsk g.sends

pub record DeedAsks (d : Deed) : Type 0 where
  pub doing : DoingAsks d.session.doing
  pub given : GivenAsks d.given

pub record MoveAsks (m : Move) : Type 0 where
  pub state : RouterAsks m.state
  pub given : GivenAsks m.given

abbrev pub AllRoutersAsk : Nodes → Type 0
AllRoutersAsk nodes = (number : ℕ) (r : RouterState) → slice_get nodes.routers number ≡ Some r
    → RouterAsks r
