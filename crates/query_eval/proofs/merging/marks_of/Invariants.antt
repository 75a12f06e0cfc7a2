use Rattle.std.proofs.Common.{◌≡◌, ◌++◌, [], map, drop}
use Rattle.txn_semantics.specs.Found.{marked}
use Rattle.txn_semantics.specs.Meaning.{document_rules}
use Rattle.query_eval.specs.Held.{mark_of}
use Rattle.query_eval.proofs.merging.marks_of.Given as goal

abbrev pub invariant-loop-doc : goal.invariant-loop-doc
invariant-loop-doc l = map mark_of l.marks.items ++ marked document_rules (drop l.doc-index
    l.doc-items) [] ≡ marked document_rules l.doc-items []
