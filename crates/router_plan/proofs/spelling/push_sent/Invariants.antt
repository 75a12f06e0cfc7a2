use Rattle.std.proofs.Common.{◌≡◌, ◌++◌, drop, map}
use Rattle.txn_types.specs.Letters.{all_sent_by}
use Rattle.txn_types.specs.declared.node.NodeId.TheVariants.{Router}
use Rattle.router_plan.specs.Spelling.{letter_of}
use Rattle.router_plan.proofs.spelling.push_sent.Given as goal

abbrev pub invariant-loop-shard : goal.invariant-loop-shard
invariant-loop-shard l =
    l.out ++ all_sent_by (Router l.router) l.time (map letter_of (drop l.shard-index l.posts))
    ≡ l.fn.out ++ all_sent_by (Router l.router) l.time (map letter_of l.posts)
