use Rattle.std.proofs.Common.{◌≡◌, map}
use Rattle.std.specs.List.{range_with_len}
use Rattle.txn_types.specs.declared.message.Msg.TheVariants.{Nudge}
use Rattle.router_core.proofs.serving.resent.Given as goal

abbrev pub invariant-loop-shard : goal.invariant-loop-shard
invariant-loop-shard l = l.posts ≡ map (λ shard. (shard, Nudge)) (range_with_len 0 l.shard)
