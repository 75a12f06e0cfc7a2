use Rattle.std.proofs.Common.{◌≡◌, drop}
use Rattle.txn_semantics.specs.Rows.{IsRising}
use Rattle.txn_semantics.specs.View.{view_from, view}
use Rattle.txn_model.proofs.viewing.view.Given as goal

abbrev pub invariant-loop-entry : goal.invariant-loop-entry
invariant-loop-entry l = record {
  rows : view_from l.rows.items (drop l.entry-index l.entries) l.at l.ns ≡ view l.entries l.at l.ns;
  rising : IsRising l.rows.items;
}
