use Rattle.std.proofs.Common.{ap, sym, ◌∙◌}
use Rattle.txn_semantics.specs.Found.{marks_of}
use Rattle.txn_semantics.specs.Meaning.{document_rules}
use Rattle.txn_semantics.specs.Merge.{found_of}
use Rattle.query_eval.proofs.Joining.{named_last}
use Rattle.query_eval.proofs.merging.marks_of.Goals as goal

pub returns : goal.returns
returns c =
    named_last c.as_slice-doc-items.result.now c.in-Rows.cut c.in-Some-cut.id c.in_ok-copy.field-0
    c.loop-doc.marks.items c.push-2.new.self.items c.loop-doc.doc-index c.in-Some-cut.is
    c.in_ok-copy.ensures c.in_ok-push-2.ensures.items c.loop-doc.invariant c.loop-doc-test.false
    ∙ ap (λ docs. marks_of document_rules (docs, c.in-Rows.cut)) c.as_slice-doc-items.ensures
    ∙ ap (λ part. marks_of document_rules (found_of part)) (sym c.in-Rows.is)
