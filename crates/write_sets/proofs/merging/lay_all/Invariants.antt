use Rattle.std.proofs.Common.{◌≡◌, drop, map}
use Rattle.txn_semantics.specs.Keyed.{laid}
use Rattle.txn_semantics.specs.Writes.{place_cmp, placed}
use Rattle.write_sets.proofs.merging.lay_all.Given as goal

abbrev pub invariant-loop-write : goal.invariant-loop-write
invariant-loop-write l = laid place_cmp l.rows.entries (map placed (drop l.write-index l.writes))
    ≡ laid place_cmp l.initial.rows.entries (map placed l.writes)
