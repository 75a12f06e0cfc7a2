use Rattle.std.proofs.Common.{◌≡◌, ◌++◌, cond, drop}
use Rattle.std.specs.Ordering.{nat_cmp}
use Rattle.txn_semantics.specs.Keyed.{put}
use Rattle.router_state.proofs.shards.put_answer.Given as goal

abbrev pub invariant-loop-other : goal.invariant-loop-other
invariant-loop-other l =
    l.all ++ cond l.is_put (drop l.other-index l.answers) (put nat_cmp l.answer.shard l.answer
    (drop l.other-index l.answers)) ≡ put nat_cmp l.answer.shard l.answer l.answers
