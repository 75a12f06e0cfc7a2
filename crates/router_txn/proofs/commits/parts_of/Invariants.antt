use Rattle.std.proofs.Common.{◌≡◌, take}
use Rattle.router_txn.proofs.commits.parts_of.Given as goal

abbrev pub invariant-loop-shard : goal.invariant-loop-shard
invariant-loop-shard l = l.parts ≡ take l.shard-index l.writers
