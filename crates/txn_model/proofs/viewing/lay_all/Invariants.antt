use Rattle.std.proofs.Common.{◌≡◌, drop}
use Rattle.txn_semantics.specs.Rows.{IsRising, under}
use Rattle.txn_model.proofs.viewing.lay_all.Given as goal

abbrev pub invariant-loop-write : goal.invariant-loop-write
invariant-loop-write l = record {
  rows : under l.ns l.rows.items (drop l.write-index l.writes)
      ≡ under l.ns l.initial.rows.items l.writes;
  rising : IsRising l.rows.items;
}
