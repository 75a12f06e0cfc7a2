use Rattle.std.proofs.Common.{◌≡◌, [], map, drop}
use Rattle.txn_semantics.specs.Found.{ordered, marks_of, joined}
use Rattle.txn_semantics.specs.Meaning.{document_rules}
use Rattle.txn_semantics.specs.Merge.{found_of}
use Rattle.txn_semantics.specs.Rows.{IsRising}
use Rattle.query_eval.specs.Held.{mark_of}
use Rattle.query_eval.proofs.merging.joined.Given as goal

abbrev pub invariant-loop-part : goal.invariant-loop-part
invariant-loop-part l = record {
  joins : joined (map mark_of l.all.items) (map (λ told. ordered l.down
      (marks_of document_rules told)) (map found_of (drop l.part-index l.parts))) ≡ joined []
      (map (λ told. ordered l.down (marks_of document_rules told)) (map found_of l.parts));
  rising : IsRising l.all.items;
}
