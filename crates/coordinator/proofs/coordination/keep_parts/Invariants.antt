use Rattle.std.proofs.Common.{◌≡◌, ◌++◌, drop}
use Rattle.coordinator.proofs.coordination.keep_parts.Given as goal

abbrev pub invariant-loop-shard : goal.invariant-loop-shard
invariant-loop-shard l = l.kept ++ drop l.shard-index l.parts ≡ l.parts
