use Rattle.std.proofs.Common.{◌≡◌, take}
use Rattle.version_store.proofs.version.copy_pendings.Given as goal

abbrev pub invariant-loop-pending : goal.invariant-loop-pending
invariant-loop-pending l = l.copy.items ≡ take l.pending-index l.pending-items
