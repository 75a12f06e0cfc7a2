-- A configuration of one shard has one, which starts alone on a new disk.
use Rattle.std.proofs.Common.{◌≡◌, List, [], ◌∷◌, length, Some, refl, ap}
use Rattle.std.proofs.Common.{◌∙◌, arith}
use Rattle.std.specs.Prelude.{slice_get}
use Rattle.cluster_conf.specs.Conf.{Settings}
use Rattle.cluster_core.specs.Nodes.{Nodes}
use Rattle.shard_core.specs.NodeStep.{NodeState}
use Rattle.one_shard_laws.specs.Concluding.{StartsAlone}
use Rattle.cluster_play.specs.Ended.{AreStarted}

-- a list of one
record One {A : Type 0} (xs : List A) : Type 0 where
  it : A
  is : xs ≡ it ∷ []

one_of : {A : Type 0} (xs : List A) → length xs ≡ 1 → One xs
one_of [] e = absurd (omega (arith, e))
one_of (x ∷ []) e = record { it = x; is = refl }
one_of (x ∷ y ∷ xs) e = absurd (omega (arith, e))

pub starts_alone : (told : Type 0) (conf : Settings) (nodes : Nodes) → told → conf.shards ≡ 1
    → AreStarted told conf nodes → StartsAlone conf.map nodes
starts_alone told conf nodes t is h =
    let one : One nodes.shards = one_of nodes.shards (h.shards ∙ is) in
    let there : slice_get nodes.shards 0 ≡ Some one.it =
    ap (λ (xs : List NodeState). slice_get xs 0) one.is in
    let starts = h.new t 0 one.it there in
    record {
      fresh = h.fresh;
      node = one.it;
      faults = starts.0;
      shards = one.is;
      starts = starts.1;
    }
