use Rattle.std.proofs.Common.{◌≡◌, drop}
use Rattle.router_state.specs.State.{is_waited}
use Rattle.router_state.proofs.shards.is_waited.Given as goal

abbrev pub invariant-loop-to : goal.invariant-loop-to
invariant-loop-to l = is_waited l.shard (drop l.to-index l.posts) ≡ is_waited l.shard l.posts
