use Rattle.std.proofs.Common.{◌≡◌, ◌++◌, map, length}
use Rattle.std.specs.Vec.Iter.{into_iter_items, into_iter_len}
use Rattle.txn_semantics.specs.Effect.{AreKnown}
use Rattle.txn_semantics.specs.Meaning.{document_rules}
use Rattle.query_eval.specs.Held.{rows_in, all_written, write_of}
use Rattle.query_eval.proofs.rows.writes_to.Given as goal

abbrev pub invariant-loop-id : goal.invariant-loop-id
invariant-loop-id l = record {
  written : l.writes ++ map (write_of l.ns) (all_written (into_iter_items l.id-iterator))
      ≡ map (write_of l.ns) (all_written (into_iter_items l.initial.id-iterator));
  known : AreKnown document_rules (rows_in (into_iter_items l.id-iterator));
  count : into_iter_len l.id-iterator ≡ length (into_iter_items l.id-iterator);
}
