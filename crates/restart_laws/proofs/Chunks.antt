-- The routers of a cluster have the map of its configuration, along each run.
use Rattle.std.proofs.Common.{◌≡◌, inl, inr, ℕ, List, Some, sym, ap, subst, ◌∙◌}
use Rattle.std.specs.Prelude.{slice_get, slice_set}
use Rattle.txn_types.specs.declared.node.NodeId.TheVariants.{Shard, Router}
use Rattle.chunk_map.specs.Map.{Map}
use Rattle.router_state.specs.State.{RouterState}
use Rattle.router_core.proofs.Going.{step_on}
use Rattle.txn_model.specs.declared.ran.Ran.{Ran}
use Rattle.txn_model.specs.declared.ran.Ran.TheVariants.{Step, Swapped}
use Rattle.cluster_core.specs.Nodes.{Nodes}
use Rattle.cluster_core.specs.Trace.{Happens, IsFresh, again}
use Rattle.world_laws.proofs.Lists.{get_set}

abbrev pub HaveMap : Map → List RouterState → Type 0
HaveMap chunks routers = (n : ℕ) (r : RouterState) → slice_get routers n ≡ Some r
    → r.chunks ≡ chunks

pub fresh_map : (chunks : Map) (nodes : Nodes) → IsFresh chunks nodes
    → HaveMap chunks nodes.routers
fresh_map chunks nodes f n r at =
    let b = f.routers n r at in ap (λ (x : RouterState). x.chunks) b.1

one_map : (chunks : Map) (routers new : List RouterState) (n : ℕ) (after : RouterState)
    → new ≡ slice_set routers n after → after.chunks ≡ chunks → HaveMap chunks routers
    → HaveMap chunks new
one_map chunks routers new n after is own have number x at =
    elim (get_set routers n number after x
    (sym (ap (λ (rs : List RouterState). slice_get rs number) is) ∙ at)) [
      | inl w ↦ subst (λ (r : RouterState). r.chunks ≡ chunks) w.1 own
      | inr w ↦ have number x w
    ]

same_map : (chunks : Map) (old new : List RouterState) → new ≡ old → HaveMap chunks old
    → HaveMap chunks new
same_map chunks old new is have = subst (HaveMap chunks) (sym is) have

pub map_kept : (chunks : Map) (old : Nodes) (ran : Ran) (new : Nodes) → Happens old ran new
    → HaveMap chunks old.routers → HaveMap chunks new.routers
map_kept chunks old (Step (Shard n) e a faults) new h have =
    same_map chunks old.routers new.routers (ap (λ (w : Nodes). w.routers) h.nodes) have
map_kept chunks old (Step (Router n) e a faults) new h have =
    one_map chunks old.routers new.routers n h.after (ap (λ (w : Nodes). w.routers) h.nodes)
    (ap (λ (r : RouterState). r.chunks) h.takes.2 ∙ (step_on h.takes.0 h.before e).chunks
    ∙ have n h.before h.there) have
map_kept chunks old (Swapped (Shard n)) new h have =
    same_map chunks old.routers new.routers (ap (λ (w : Nodes). w.routers) h.nodes) have
map_kept chunks old (Swapped (Router n)) new h have =
    one_map chunks old.routers new.routers n (again n h.before)
    (ap (λ (w : Nodes). w.routers) h.nodes) (have n h.before h.there) have
