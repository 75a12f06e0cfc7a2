use Rattle.std.proofs.Common.{◌≡◌, length}
use Rattle.std.specs.Vec.Iter.{into_iter_items, into_iter_len}
use Rattle.txn_semantics.specs.Rows.{IsRising, laid_over}
use Rattle.query_eval.proofs.merging.lay.Given as goal

abbrev pub invariant-loop-id : goal.invariant-loop-id
invariant-loop-id l = record {
  laid : laid_over l.all.items (into_iter_items l.id-iterator)
      ≡ laid_over l.initial.all.items (into_iter_items l.initial.id-iterator);
  rising : IsRising l.all.items;
  count : into_iter_len l.id-iterator ≡ length (into_iter_items l.id-iterator);
}
