use Rattle.std.proofs.Common.{◌≡◌, ◌-◌, filter, not, length}
use Rattle.txn_types.specs.Order.{same_tag}
use Rattle.version_store.specs.declared.version.Pending.{Pending}
use Rattle.version_store.proofs.Removing.{sifted}
use Rattle.version_store.proofs.pending.forget.Given as goal

abbrev pub invariant-loop-pending : goal.invariant-loop-pending
invariant-loop-pending l = sifted (λ (other : Pending). not (same_tag other.tag l.tag)) l.place
    l.pendings ≡ filter (λ (other : Pending). not (same_tag other.tag l.tag)) l.initial.pendings

abbrev pub decreases-loop-pending : goal.decreases-loop-pending
decreases-loop-pending l = length l.pendings - l.place
