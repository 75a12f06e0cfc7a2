use Rattle.std.proofs.Common.{◌≡◌, ◌++◌, cond, drop}
use Rattle.std.specs.Ordering.{nat_cmp}
use Rattle.txn_semantics.specs.Keyed.{put}
use Rattle.router_state.proofs.shards.put_participant.Given as goal

abbrev pub invariant-loop-other : goal.invariant-loop-other
invariant-loop-other l = l.all ++ cond l.is_put (drop l.other-index l.parts) (put nat_cmp l.shard
    l.boot (drop l.other-index l.parts)) ≡ put nat_cmp l.shard l.boot l.parts
