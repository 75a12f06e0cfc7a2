use Rattle.node_store.proofs.Rising.{all_written}
use Rattle.node_store.proofs.shard_node.ShardNode+DiskLog+D.start.Goals as goal

pub over-requires-clause-written : goal.over-requires-clause-written
over-requires-clause-written g c =
    all_written 0 c.in-Ok.ensures.found.payloads _ c.in-Ok.ensures.found.are
