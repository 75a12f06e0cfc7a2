use Rattle.std.proofs.Common.{List}
use Rattle.chunk_map.specs.Map.{Map, IsMap}
use Rattle.txn_model.specs.declared.ran.Ran.{Ran}
use Rattle.cluster_core.specs.Nodes.{Nodes}
use Rattle.cluster_core.specs.Trace.{IsTrace}
use Rattle.one_shard_laws.specs.Concluding.{StartsAlone}
use Rattle.right_laws.proofs.Whole.{right_of}
use Rattle.right_laws.proofs.laws.what_one_shard_tells_is_right.Goals as goal

pub returns : goal.returns
returns c chunks start run trace now map alone is =
    right_of chunks start run trace now map alone is
