-- A recovery that is delivered where a cause is made names a boot that the shard had.
use Rattle.std.proofs.Common.{◌++◌, ℕ, List, [], ◌∷◌, Contains, subst}
use Rattle.std.proofs.lemmas.List.Elements.{All-contains_itself, Contains-append_left}
use Rattle.txn_types.specs.declared.cause.Cause.{Cause}
use Rattle.txn_types.specs.declared.names.Tag.{Tag}
use Rattle.txn_types.specs.declared.node.NodeId.TheVariants.{Shard}
use Rattle.chunk_map.specs.Map.{Map}
use Rattle.txn_model.specs.declared.ran.Ran.{Ran}
use Rattle.cluster_core.specs.Causes.{Making, IsMade}
use Rattle.cluster_core.specs.Nodes.{Nodes}
use Rattle.cluster_core.specs.Right.{past_of}
use Rattle.cluster_core.specs.Trace.{IsTrace, MayCome}
use Rattle.world_laws.proofs.Lists.{at_place}
use Rattle.stood_laws.specs.Ruled.{RecoversEarlier}
use Rattle.stood_laws.proofs.Standing.{step_of}
use Rattle.right_laws.specs.Boots.{RecoversNameBoots}

pub recovers_earlier : (chunks : Map) (start : Nodes) (run : List Ran) (trace : List Nodes)
    (now : Nodes) → IsTrace start run trace now
    → ((nodes : Nodes) → Contains (trace ++ now ∷ []) nodes → RecoversNameBoots nodes)
    → (within shard : ℕ) (tag : Tag) (why : Cause) (m : Making)
    → IsMade (past_of chunks start run trace now) within shard tag why m → RecoversEarlier m
recovers_earlier chunks start run trace now is name within shard tag why m made d x what_is msg_is =
    let there : Contains (trace ++ now ∷ []) made.nodes =
    Contains-append_left trace (now ∷ []) made.nodes
    (at_place (Contains trace) trace m.place made.nodes (All-contains_itself trace)
    made.at.before) in
    let comes : MayCome made.nodes.sent (Shard shard) m.event.what =
    (step_of chunks start run trace now is within shard tag why m made).steps.comes in
    let came : Contains made.nodes.sent d =
    (subst (MayCome made.nodes.sent (Shard shard)) what_is comes).0 in
    name made.nodes there x (d, came, msg_is) shard m.before made.before
