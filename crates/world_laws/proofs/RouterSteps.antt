-- Each event keeps that routers send and wait for no message of a shard.
use Rattle.std.proofs.Common.{◌≡◌, inl, inr, ℕ, List, All, sym, ap, subst, ◌∙◌}
use Rattle.std.specs.Prelude.{slice_get, slice_set}
use Rattle.std.proofs.lemmas.List.Elements.{All-nil}
use Rattle.txn_types.specs.declared.event.NodeAnswer.{NodeAnswer}
use Rattle.txn_types.specs.declared.event.NodeEvent.{NodeEvent}
use Rattle.txn_types.specs.declared.message.Envelope.{Envelope}
use Rattle.txn_types.specs.declared.node.Lsid.{Lsid}
use Rattle.txn_types.specs.declared.node.NodeId.TheVariants.{Shard, Router}
use Rattle.router_state.specs.declared.state.Session.{Session}
use Rattle.router_state.specs.State.{RouterState}
use Rattle.router_core.specs.Step.{RouterTakes}
use Rattle.txn_model.specs.declared.ran.Ran.{Ran}
use Rattle.txn_model.specs.declared.ran.Ran.TheVariants.{Step, Swapped}
use Rattle.txn_types.specs.Letters.{given_out}
use Rattle.cluster_core.specs.Nodes.{Nodes}
use Rattle.cluster_core.specs.Trace.{Happens, again}
use Rattle.world_laws.specs.ReadTimes.{IsAsked, RoutersAsk}
use Rattle.world_laws.specs.Asking.{DoingAsks, RouterAsks, AllRoutersAsk}
use Rattle.world_laws.proofs.Lists.{get_set}
use Rattle.world_laws.proofs.Asking.{router_asks}

set_asks : (old : Nodes) (n : ℕ) (after : RouterState) (new : Nodes)
    → new.routers ≡ slice_set old.routers n after → AllRoutersAsk old → RouterAsks after
    → AllRoutersAsk new
set_asks old n after new is h this number x e =
    elim (get_set old.routers n number after x
    (sym (ap (λ (l : List RouterState). slice_get l number) is) ∙ e))
    [ inl w ↦ subst RouterAsks w.1 this | inr w ↦ h number x w ]

same_asks : (old new : Nodes) → new.routers ≡ old.routers → AllRoutersAsk old → AllRoutersAsk new
same_asks old new is h number x e =
    h number x (sym (ap (λ (l : List RouterState). slice_get l number) is) ∙ e)

takes_asks : (old : RouterState) (e : NodeEvent) (a : NodeAnswer) (new : RouterState)
    → RouterTakes old e a new → RouterAsks old
    → RouterAsks new × All (λ (e : Envelope). IsAsked e.msg) (given_out a)
takes_asks old e a new h k =
    let s = router_asks h.0 old e k in (
      subst RouterAsks (sym h.2) s.0,
      subst (λ (a : NodeAnswer). All (λ (e : Envelope). IsAsked e.msg) (given_out a)) (sym h.1) s.1,
    )

pub routers_step : (old : Nodes) (ran : Ran) (new : Nodes) → Happens old ran new → AllRoutersAsk old
    → AllRoutersAsk new
routers_step old (Step (Shard n) e a faults) new h k =
    same_asks old new (ap (λ (w : Nodes). w.routers) h.nodes) k
routers_step old (Step (Router n) e a faults) new h k =
    set_asks old n h.after new (ap (λ (w : Nodes). w.routers) h.nodes) k (takes_asks h.before e a
    h.after h.takes (k n h.before h.there)).0
routers_step old (Swapped (Shard n)) new h k =
    same_asks old new (ap (λ (w : Nodes). w.routers) h.nodes) k
routers_step old (Swapped (Router n)) new h k =
    set_asks old n (again n h.before) new (ap (λ (w : Nodes). w.routers) h.nodes) k
    (All-nil (λ (entry : Lsid × Session). DoingAsks entry.1.doing))

pub routers_sent : (old : Nodes) (ran : Ran) (new : Nodes) → Happens old ran new → AllRoutersAsk old
    → RoutersAsk ran
routers_sent old (Step (Shard n) e a faults) new h k = tt
routers_sent old (Step (Router n) e a faults) new h k =
    (takes_asks h.before e a h.after h.takes (k n h.before h.there)).1
routers_sent old (Swapped (Shard n)) new h k = tt
routers_sent old (Swapped (Router n)) new h k = tt
