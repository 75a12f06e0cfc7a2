use Rattle.std.proofs.Common.{◌≡◌, [], drop}
use Rattle.txn_semantics.specs.Rows.{IsRising, under}
use Rattle.query_eval.specs.Held.{rows_in, all_written}
use Rattle.query_eval.proofs.rows.rows_under.Given as goal

abbrev pub invariant-loop-write : goal.invariant-loop-write
invariant-loop-write l = record {
  rows : under l.ns (rows_in l.held.items) (drop l.write-index l.own) ≡ under l.ns l.fn.rows l.own;
  rising : IsRising l.held.items;
  unwritten : all_written l.held.items ≡ [];
}
