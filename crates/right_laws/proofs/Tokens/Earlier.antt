-- A request to recover a transaction names a boot that the shard had.
use Rattle.std.proofs.Common.{◌≡◌, ◌∷◌, ◌++◌, ◌<◌, ◌≤◌, ℕ, zero, suc, List, [], Some, None, refl}
use Rattle.std.proofs.Common.{sym, ap, ◌∙◌, arith, slice_get}
use Rattle.std.specs.Prelude.{Contains}
use Rattle.std.proofs.lemmas.List.Elements.{All-contains}
use Rattle.part_laws.specs.Sound.{Served}
use Rattle.shard_core.specs.NodeStep.{NodeState}
use Rattle.chunk_map.specs.Map.{Map, IsMap}
use Rattle.txn_model.specs.declared.ran.Ran.{Ran}
use Rattle.cluster_core.specs.Deciding.{TokensGiven}
use Rattle.cluster_core.specs.Ledger.{answered_in}
use Rattle.cluster_core.specs.Nodes.{Nodes}
use Rattle.cluster_core.specs.Trace.{IsTrace}
use Rattle.one_shard_laws.specs.Concluding.{StartsAlone}
use Rattle.one_shard_laws.specs.Lasting.{OneShard, HasLast}
use Rattle.one_shard_laws.proofs.Joint.{runs_alone}
use Rattle.right_laws.specs.Boots.{RecoversNameBoots}
use Rattle.right_laws.proofs.Tokens.Agreeing.{sought_known}
use Rattle.right_laws.proofs.Tokens.Boots.{each_among, gave_served}
use Rattle.right_laws.proofs.Tokens.Running.{IsReached, all_reached, world_of}

only_shard : (node x : NodeState) (n : ℕ) → slice_get (node ∷ []) n ≡ Some x
    → (n ≡ 0) × (node ≡ x)
only_shard node x zero e = (refl, grind (arith, e))
only_shard node x (suc i) e = let no : None ≡ Some x = e in absurd (grind (arith, no))

module _ (chunks : Map) (is : IsMap chunks) (start : Nodes) (h : StartsAlone chunks start)
    (nodes : Nodes) (r : IsReached chunks is start h nodes) where
  alone : OneShard nodes
  alone = runs_alone chunks start r.run r.trace nodes h r.comes

  -- what its records hold
  kept : HasLast nodes.sent alone.node.records
  kept = alone.right.kept

  boot_is : kept.0.part.boot ≡ alone.node.core.part.boot
  boot_is =
      let first : slice_get nodes.shards 0 ≡ Some alone.node =
      ap (λ (xs : List NodeState). slice_get xs 0) alone.shards in
      sym kept.2.backed.durable.boot
      ∙ sym ((world_of chunks is start h r.run r.trace nodes r.comes).boots.shards 0 alone.node
      first).0.records

  pub names_boots : RecoversNameBoots nodes
  names_boots x was n node at =
      let k = (sought_known nodes (answered_in start.routers r.run) r.tokens.sent x was).boots in
      let w = gave_served nodes.sent kept.1 kept.2.told (answered_in start.routers r.run) x.tag
      k.place x.boot k.gave in
      let lives = each_among (λ (y : Served). (0 < y.life) × (y.life ≤ kept.0.part.boot)) kept.1 w.x
      kept.2.lives w.among in
      let own = only_shard alone.node node n
      (ap (λ (xs : List NodeState). slice_get xs n) (sym alone.shards) ∙ at) in
      let boot : kept.0.part.boot ≡ node.core.part.boot = boot_is
      ∙ ap (λ (y : NodeState). y.core.part.boot) own.1 in
      let some : 0 < w.x.life = lives.0 in
      let most : w.x.life ≤ kept.0.part.boot = lives.1 in
      let life : w.x.life ≡ x.boot = w.life in
      (omega (arith, some, life), omega (arith, most, life, boot))

pub recovers_name_boots : (chunks : Map) (start : Nodes) (run : List Ran) (trace : List Nodes)
    (now : Nodes) → IsMap chunks → StartsAlone chunks start → IsTrace start run trace now
    → TokensGiven start.routers run → (nodes : Nodes) → Contains (trace ++ now ∷ []) nodes
    → RecoversNameBoots nodes
recovers_name_boots chunks start run trace now is h k given nodes c =
    names_boots chunks is start h nodes
    (All-contains (IsReached chunks is start h) (trace ++ now ∷ []) nodes
    (all_reached chunks is start h run trace now k given) c)
