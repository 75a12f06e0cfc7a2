use Rattle.std.proofs.Common.{◌≡◌, drop}
use Rattle.shard_image.specs.Sound.{pending_of}
use Rattle.shard_image.proofs.order.find_pending.Given as goal

abbrev pub invariant-loop-q : goal.invariant-loop-q
invariant-loop-q l = pending_of (drop l.q-index l.pending) l.tag ≡ pending_of l.pending l.tag
