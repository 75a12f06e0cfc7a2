use Rattle.std.proofs.Common.{◌≡◌, ◌≤◌, map, drop}
use Rattle.txn_semantics.specs.Found.{cut_marks}
use Rattle.txn_semantics.specs.Meaning.{document_rules}
use Rattle.query_eval.specs.Held.{mark_of}
use Rattle.query_eval.proofs.Telling.{behind}
use Rattle.query_eval.proofs.finding.cut.Given as goal

abbrev pub invariant-loop-id : goal.invariant-loop-id
invariant-loop-id l = record {
  told : behind l.docs.items (cut_marks document_rules l.room (map mark_of
      (drop l.id-index l.marks))) ≡ cut_marks document_rules 16000000 (map mark_of l.marks);
  small : l.room ≤ 16000000;
}
