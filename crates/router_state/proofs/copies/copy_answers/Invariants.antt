use Rattle.std.proofs.Common.{◌≡◌, take}
use Rattle.router_state.proofs.copies.copy_answers.Given as goal

abbrev pub invariant-loop-shard : goal.invariant-loop-shard
invariant-loop-shard l = l.copy.items ≡ take l.shard-index l.shard-items
