use Rattle.std.proofs.Common.{◌≡◌, drop}
use Rattle.router_state.specs.State.{boot_of}
use Rattle.router_state.proofs.shards.boot_of.Given as goal

abbrev pub invariant-loop-participant : goal.invariant-loop-participant
invariant-loop-participant l =
    boot_of (drop l.participant-index l.parts) l.shard ≡ boot_of l.parts l.shard
