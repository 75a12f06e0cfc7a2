use Rattle.std.proofs.Common.{◌≡◌, ◌++◌, drop, map}
use Rattle.cluster_world.specs.World.{records_in}
use Rattle.cluster_world.proofs.listing.journals_of.Given as goal

abbrev pub invariant-loop-shard : goal.invariant-loop-shard
invariant-loop-shard g l = map (λ j. j.now) l.journals.items ++ records_in g.S.Journalled.state
    (drop l.shard-index l.shards) ≡ records_in g.S.Journalled.state l.shards
