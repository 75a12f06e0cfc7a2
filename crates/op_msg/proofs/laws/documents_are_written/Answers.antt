use Rattle.std.proofs.Common.{subst}
use Rattle.std.specs.List.{All}
use Rattle.std.proofs.lemmas.List.{take_all}
use Rattle.std.proofs.lemmas.List.Elements.{All-more}
use Rattle.op_msg.specs.Written.{IsWritten}
use Rattle.op_msg.proofs.laws.documents_are_written.Goals as goal

pub loop-doc-preserved : goal.loop-doc-preserved
loop-doc-preserved c =
    All-more IsWritten c.args.docs.now c.loop-doc.doc-index c.doc-item.result c.loop-doc-test.true
    c.loop-doc.invariant (subst IsWritten c.doc-item.is c.spelling_is_in_the_grammar.ensures)

pub returns : goal.returns
returns c = subst (All IsWritten) (take_all c.loop-doc.doc-index c.args.docs.now
    c.loop-doc-test.false) c.loop-doc.invariant
