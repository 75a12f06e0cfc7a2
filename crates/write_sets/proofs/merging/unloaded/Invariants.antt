use Rattle.std.proofs.Common.{◌≡◌, ◌++◌, length, map}
use Rattle.txn_types.specs.declared.write.Write.{Write}
use Rattle.txn_semantics.specs.Writes.{Place}
use Rattle.write_sets.proofs.merging.unloaded.Given as goal

abbrev pub invariant-loop-place : goal.invariant-loop-place
invariant-loop-place l = l.writes ++ map (λ (row : Place × Write). row.1) l.rows.entries
    ≡ map (λ (row : Place × Write). row.1) l.initial.rows.entries

abbrev pub decreases-loop-place : goal.decreases-loop-place
decreases-loop-place l = length l.rows.entries
