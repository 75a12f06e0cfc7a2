-- What a step, and what a replaced node, leaves, seen of the world.
use Rattle.std.proofs.Common.{◌≡◌, ◌<◌, ◌^◌, ℕ, Bool, List, [], ◌∷◌, ◌++◌, Some, Result, Ok, Err}
use Rattle.std.proofs.Common.{OnOk, map, refl, ap, sym, subst, ◌∙◌, length, remove, slice_get}
use Rattle.std.proofs.Common.{slice_set}
use Rattle.txn_types.specs.declared.message.Envelope.{Envelope}
use Rattle.txn_semantics.specs.declared.commits.Entry.{Entry}
use Rattle.shard_core.specs.NodeStep.{NodeState, ShardTakes}
use Rattle.router_state.specs.State.{RouterState}
use Rattle.txn_model.specs.Commits.{commits}
use Rattle.txn_model.specs.declared.ran.Ran.{Ran}
use Rattle.cluster_core.specs.Nodes.{Nodes, commits_of}
use Rattle.txn_types.specs.Letters.{given_out}
use Rattle.cluster_core.specs.Trace.{MayCome, RouterStarts, ShardStarts}
use Rattle.router_core.specs.Step.{RouterTakes}
use Rattle.shard_core.specs.Laws.{HasTimes}
use Rattle.txn_types.specs.declared.event.NodeAnswer.{NodeAnswer}
use Rattle.txn_types.specs.declared.event.NodeEvent.{NodeEvent}
use Rattle.txn_types.specs.declared.node.NodeId.TheVariants.{Shard, Router}
use Rattle.txn_model.specs.declared.ran.Ran.TheVariants.{Step}
use Rattle.cluster_world.specs.declared.error.SwapErr.TheVariants as error
use Rattle.cluster_world.specs.World.{WorldState, world_of, records_in, AsMany, AsManyUnlessNext}
use Rattle.cluster_world.specs.World.{ShardRenews, RouterRenews, TakesAt, Took}
use Rattle.cluster_world.proofs.Set.{map_get, map_set, map_removed, set_long}

pub on_ok : {A E P Q : Type 0} (r : Result A E) → (P → Q) → OnOk r P → OnOk r Q
on_ok (Ok a) f p = f p
on_ok (Err e) f p = tt

abbrev pub nodes_of : List NodeState → List RouterState → List Envelope → Nodes
nodes_of shards routers sent = record { shards = shards; routers = routers; sent = sent }

pub router_there : {R : Type 0} (r : R → RouterState) (shards : List NodeState) (routers : List R)
    (sent : List Envelope) (entries : List Entry) (run : List Ran) (spent : Bool) (w : WorldState)
    (n : ℕ) (before : R)
    → world_of shards (map r routers) sent entries run spent ≡ w → slice_get routers n ≡ Some before
    → slice_get w.nodes.routers n ≡ Some (r before)
router_there r shards routers sent entries run spent w n before is got =
    subst (λ (w : WorldState). slice_get w.nodes.routers n ≡ Some (r before)) is
    (map_get r routers n before got)

pub router_set : {R : Type 0} (r : R → RouterState) (shards : List NodeState) (routers new : List R)
    (sent : List Envelope) (entries : List Entry) (run : List Ran) (spent : Bool) (w : WorldState)
    (n : ℕ) (after : R)
    → world_of shards (map r routers) sent entries run spent ≡ w → new ≡ slice_set routers n after
    → nodes_of shards (map r new) sent
    ≡ nodes_of w.nodes.shards (slice_set w.nodes.routers n (r after)) w.nodes.sent
router_set r shards routers new sent entries run spent w n after is set =
    subst (λ (w : WorldState). nodes_of shards (map r new) sent
    ≡ nodes_of w.nodes.shards (slice_set w.nodes.routers n (r after)) w.nodes.sent) is
    (ap (λ (rs : List RouterState). nodes_of shards rs sent)
    (ap (map r) set ∙ map_set r routers n after))

pub router_gone : {R : Type 0} (r : R → RouterState) (shards : List NodeState)
    (routers new : List R) (sent : List Envelope) (entries : List Entry) (run : List Ran)
    (spent : Bool) (w : WorldState) (n : ℕ)
    → world_of shards (map r routers) sent entries run spent ≡ w → new ≡ remove routers n
    → nodes_of shards (map r new) sent
    ≡ nodes_of w.nodes.shards (remove w.nodes.routers n) w.nodes.sent
router_gone r shards routers new sent entries run spent w n is gone =
    subst (λ (w : WorldState). nodes_of shards (map r new) sent
    ≡ nodes_of w.nodes.shards (remove w.nodes.routers n) w.nodes.sent) is
    (ap (λ (rs : List RouterState). nodes_of shards rs sent)
    (ap (map r) gone ∙ map_removed r routers n))

pub shard_there : {S : Type 0} (s : S → NodeState) (shards : List S) (routers : List RouterState)
    (sent : List Envelope) (entries : List Entry) (run : List Ran) (spent : Bool) (w : WorldState)
    (n : ℕ) (before : S)
    → world_of (map s shards) routers sent entries run spent ≡ w → slice_get shards n ≡ Some before
    → slice_get w.nodes.shards n ≡ Some (s before)
shard_there s shards routers sent entries run spent w n before is got =
    subst (λ (w : WorldState). slice_get w.nodes.shards n ≡ Some (s before)) is
    (map_get s shards n before got)

pub shard_set : {S : Type 0} (s : S → NodeState) (shards new : List S) (routers : List RouterState)
    (sent : List Envelope) (entries : List Entry) (run : List Ran) (spent : Bool) (w : WorldState)
    (n : ℕ) (after : S)
    → world_of (map s shards) routers sent entries run spent ≡ w → new ≡ slice_set shards n after
    → nodes_of (map s new) routers sent
    ≡ nodes_of (slice_set w.nodes.shards n (s after)) w.nodes.routers w.nodes.sent
shard_set s shards new routers sent entries run spent w n after is set =
    subst (λ (w : WorldState). nodes_of (map s new) routers sent
    ≡ nodes_of (slice_set w.nodes.shards n (s after)) w.nodes.routers w.nodes.sent) is
    (ap (λ (ss : List NodeState). nodes_of ss routers sent)
    (ap (map s) set ∙ map_set s shards n after))

pub shard_gone : {S : Type 0} (s : S → NodeState) (shards new : List S) (routers : List RouterState)
    (sent : List Envelope) (entries : List Entry) (run : List Ran) (spent : Bool)
    (w : WorldState) (n : ℕ)
    → world_of (map s shards) routers sent entries run spent ≡ w → new ≡ remove shards n
    → nodes_of (map s new) routers sent
    ≡ nodes_of (remove w.nodes.shards n) w.nodes.routers w.nodes.sent
shard_gone s shards new routers sent entries run spent w n is gone =
    subst (λ (w : WorldState). nodes_of (map s new) routers sent
    ≡ nodes_of (remove w.nodes.shards n) w.nodes.routers w.nodes.sent) is
    (ap (λ (ss : List NodeState). nodes_of ss routers sent)
    (ap (map s) gone ∙ map_removed s shards n))

abbrev next_or : {E : Type 0} → E → Result (Unit {0}) (error.the_data E) → E
next_or d (Ok u) = d
next_or d (Err error.Memory) = d
next_or d (Err (error.Next e)) = e

pub next_same : {E : Type 0} (x y : E) → ◌≡◌ {A = Result (Unit {0}) (error.the_data E)}
    (Err (error.Next x)) (Err (error.Next y)) → x ≡ y
next_same x y is = ap (next_or x) is

pub router_starts : (old : Nodes) (n : ℕ) (before after : RouterState) (new : Nodes)
    → slice_get old.routers n ≡ Some before → RouterRenews n before after
    → new ≡ nodes_of old.shards (slice_set old.routers n after) old.sent → RouterStarts old n new
router_starts old n before after new there renews is =
    record {
      before = before;
      there = there;
      left = renews.left;
      nodes = is ∙ ap (λ (a : RouterState). nodes_of old.shards (slice_set old.routers n a)
          old.sent) renews.starts;
    }

pub shard_starts : (old : Nodes) (n : ℕ) (before after : NodeState) (new : Nodes)
    → slice_get old.shards n ≡ Some before → ShardRenews n before after
    → new ≡ nodes_of (slice_set old.shards n after) old.routers old.sent → ShardStarts old n new
shard_starts old n before after new there renews is =
    record {
      before = before;
      after = after;
      recs = renews.recs;
      faults = renews.faults;
      there = there;
      remain = renews.remain;
      later = renews.later;
      starts = renews.starts;
      nodes = is;
    }

-- how many nodes there are after a replacement
pub unless_next : {E : Type 0} (old : Nodes) (r : Result (Unit {0}) (error.the_data E))
    (new : Nodes) → AsMany old new → AsManyUnlessNext old r new
unless_next old (Ok u) new is = is
unless_next old (Err error.Memory) new is = is
unless_next old (Err (error.Next e)) new is = tt

pub as_many_shards : (old : Nodes) (n : ℕ) (after : NodeState) (new : Nodes)
    → new ≡ nodes_of (slice_set old.shards n after) old.routers old.sent → AsMany old new
as_many_shards old n after new is = record {
  shards = ap (λ (nodes : Nodes). length nodes.shards) is ∙ set_long old.shards n after;
  routers = ap (λ (nodes : Nodes). length nodes.routers) is;
}

pub as_many_routers : (old : Nodes) (n : ℕ) (after : RouterState) (new : Nodes)
    → new ≡ nodes_of old.shards (slice_set old.routers n after) old.sent → AsMany old new
as_many_routers old n after new is = record {
  shards = ap (λ (nodes : Nodes). length nodes.shards) is;
  routers = ap (λ (nodes : Nodes). length nodes.routers) is ∙ set_long old.routers n after;
}

-- a router took an event, and it was written down
pub router_took : {R : Type 0} (r : R → RouterState) (shards : List NodeState) (routers : List R)
    (sent : List Envelope) (entries : List Entry) (run : List Ran) (spent : Bool)
    (w new : WorldState) (n i : ℕ) (before after : R) (e : NodeEvent) (a : NodeAnswer)
    → world_of shards (map r routers) sent entries run spent ≡ w → i ≡ n
    → slice_get routers i ≡ Some before → RouterTakes (r before) e a (r after)
    → MayCome w.nodes.sent (Router n) e.what → e.wall < 2 ^ 32 → HasTimes e.what
    → new ≡ world_of shards (map r (slice_set routers i after)) (sent ++ given_out a) entries (run
    ++ Step (Router n) e a 0 ∷ []) spent
    → Took w (Router n) e a new
router_took r shards routers sent entries run spent w new n i before after e a is place got takes
    comes wall times noted =
    let here : slice_get routers n ≡ Some before =
    subst (λ (k : ℕ). slice_get routers k ≡ Some before) place got in
    let set : slice_set routers i after ≡ slice_set routers n after =
    ap (λ (k : ℕ). slice_set routers k after) place in
    let nodes : new.nodes ≡ nodes_of w.nodes.shards (slice_set w.nodes.routers n (r after))
    (w.nodes.sent ++ given_out a) =
    ap (λ (w : WorldState). w.nodes) noted
    ∙ ap (λ (rs : List RouterState). nodes_of shards rs (sent ++ given_out a))
    (ap (map r) set ∙ map_set r routers n after)
    ∙ ap (λ (w : WorldState). nodes_of w.nodes.shards (slice_set w.nodes.routers n (r after))
    (w.nodes.sent ++ given_out a)) is in
    let behind : new.run ≡ w.run ++ Step (Router n) e a 0 ∷ [] = ap (λ (w : WorldState).
    w.run) noted ∙ ap (λ (w : WorldState). w.run ++ Step (Router n) e a 0 ∷ []) is in
    record {
      faults = 0;
      happens = record {
        before = r before;
        after = r after;
        there = router_there r shards routers sent entries run spent w n before is here;
        comes = comes;
        wall = wall;
        times = times;
        takes = takes;
        count = refl;
        nodes = nodes;
      };
      run = behind;
    }

-- a shard took an event, and the list of commits has come to its records
pub shard_taken : {S : Type 0} (s : S → NodeState) (shards : List S) (routers : List RouterState)
    (sent : List Envelope) (entries listed : List Entry) (run : List Ran) (spent : Bool)
    (w new : WorldState) (n i faults : ℕ) (before after : S) (e : NodeEvent) (a : NodeAnswer)
    → world_of (map s shards) routers sent entries run spent ≡ w → i ≡ n
    → slice_get shards i ≡ Some before → ShardTakes (s before) e a (s after)
    → faults ≡ (s after).faults
    → listed ≡ commits (records_in s (slice_set shards i after))
    → new ≡ world_of (map s (slice_set shards i after)) routers sent listed run spent
    → TakesAt n w e a faults new
shard_taken s shards routers sent entries listed run spent w new n i faults before after e a is
    place got takes count lists done =
    let here : slice_get shards n ≡ Some before =
    subst (λ (k : ℕ). slice_get shards k ≡ Some before) place got in
    let set : map s (slice_set shards i after) ≡ slice_set (map s shards) n (s after) =
    ap (λ (k : ℕ). map s (slice_set shards k after)) place ∙ map_set s shards n after in
    record {
      before = s before;
      after = s after;
      there = shard_there s shards routers sent entries run spent w n before is here;
      takes = takes;
      count = count;
      is = subst (λ (w : WorldState). new ≡ world_of (slice_set w.nodes.shards n (s after))
          w.nodes.routers w.nodes.sent new.commits w.run w.spent) is
          (done ∙ ap (λ (ss : List NodeState). world_of ss routers sent listed run spent) set
          ∙ ap (λ (es : List Entry). world_of (slice_set (map s shards) n (s after)) routers sent es
          run spent) (sym (ap (λ (w : WorldState). w.commits) done)));
      listed = ap (λ (w : WorldState). w.commits) done ∙ lists
          ∙ sym (ap (λ (w : WorldState). commits_of w.nodes) done);
    }

-- what a node took is written down
abbrev pub written : WorldState → Ran → NodeAnswer → WorldState
written w ran a = record w
    { nodes = record w.nodes { sent = w.nodes.sent ++ given_out a }; run = w.run ++ ran ∷ [] }

pub shard_took : (w mid new : WorldState) (n faults : ℕ) (e : NodeEvent) (a : NodeAnswer)
    → TakesAt n w e a faults mid → MayCome w.nodes.sent (Shard n) e.what → e.wall < 2 ^ 32
    → HasTimes e.what
    → new ≡ written mid (Step (Shard n) e a faults) a → Took w (Shard n) e a new
shard_took w mid new n faults e a taken comes wall times noted =
    record {
      faults = faults;
      happens = record {
        before = taken.before;
        after = taken.after;
        there = taken.there;
        comes = comes;
        wall = wall;
        times = times;
        takes = taken.takes;
        count = taken.count;
        nodes = ap (λ (w : WorldState). w.nodes) noted ∙ ap (λ (m : WorldState).
            record m.nodes { sent = m.nodes.sent ++ given_out a }) taken.is;
      };
      run = ap (λ (w : WorldState). w.run) noted
          ∙ ap (λ (m : WorldState). m.run ++ Step (Shard n) e a faults ∷ []) taken.is;
    }
