use Rattle.std.proofs.Common.{◌≡◌, ◌++◌, drop}
use Rattle.router_state.specs.State.{without}
use Rattle.router_state.proofs.shards.without.Given as goal

abbrev pub invariant-loop-to : goal.invariant-loop-to
invariant-loop-to l = l.kept ++ without l.shard (drop l.to-index l.posts) ≡ without l.shard l.posts
