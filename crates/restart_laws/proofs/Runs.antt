-- What is played is a run, with its restarts: of a router always, and of a shard whose records fit.
use Rattle.std.proofs.Common.{◌≡◌, ℕ, List, [], ◌∷◌, ◌++◌, ◌+◌, Some, refl, sym, ap}
use Rattle.std.proofs.Common.{subst, ◌∙◌}
use Rattle.std.specs.Prelude.{slice_set}
use Rattle.txn_types.specs.declared.node.NodeId.TheVariants.{Shard, Router}
use Rattle.chunk_map.specs.Map.{Map}
use Rattle.router_state.specs.State.{RouterState, fresh_router}
use Rattle.txn_model.specs.declared.ran.Ran.{Ran}
use Rattle.txn_model.specs.declared.ran.Ran.TheVariants.{Step, Swapped}
use Rattle.cluster_core.specs.Nodes.{Nodes}
use Rattle.cluster_core.specs.Trace.{Happens, IsTrace, again}
use Rattle.cluster_play.specs.Plays.{Happened}
use Rattle.restart_laws.specs.Restarts.{FitsAt}
use Rattle.restart_laws.proofs.Chunks.{HaveMap}

pub happens : (told : Type 0) (chunks : Map) (nodes : Nodes) (ran : Ran) (behind : Nodes) → told
    → HaveMap chunks nodes.routers → FitsAt nodes (Some ran)
    → Happened told chunks nodes ran behind → Happens nodes ran behind
happens told chunks nodes (Step node e a faults) behind t have fits h = h
happens told chunks nodes (Swapped (Shard n)) behind t have fits h =
    let fit = fits h.before h.there in
    record {
      before = h.before;
      after = h.after;
      recs = h.again.recs;
      faults = h.again.faults;
      there = h.there;
      remain = h.again.remain t fit.0 fit.1;
      later = h.again.later;
      starts = h.again.starts;
      nodes = h.nodes;
    }
happens told chunks nodes (Swapped (Router n)) behind t have fits h =
    let is : h.after ≡ again n h.before = h.again.starts
    ∙ ap (λ (b : ℕ). fresh_router n b chunks) (h.again.next t)
    ∙ ap (λ (c : Map). fresh_router n (h.before.boot + 1) c) (sym (have n h.before h.there)) in
    record {
      before = h.before;
      there = h.there;
      left = h.again.left t;
      nodes = h.nodes ∙ ap (λ (r : RouterState). record {
        shards = nodes.shards;
        routers = slice_set nodes.routers n r;
        sent = nodes.sent;
      }) is;
    }

-- a run with one step more
pub trace_more : (start : Nodes) (run : List Ran) (trace : List Nodes) (nodes : Nodes) (ran : Ran)
    (behind : Nodes) → IsTrace start run trace nodes → Happens nodes ran behind
    → IsTrace start (run ++ ran ∷ []) (trace ++ nodes ∷ []) behind
trace_more start [] [] nodes ran behind is h =
    (is, (behind, subst (λ (x : Nodes). Happens x ran behind) is h, refl))
trace_more start [] (other ∷ trace) nodes ran behind is h = absurd is
trace_more start (one ∷ run) [] nodes ran behind is h = absurd is
trace_more start (one ∷ run) (other ∷ trace) nodes ran behind is h =
    (is.0, (is.1.0, is.1.1, trace_more is.1.0 run trace nodes ran behind is.1.2 h))
