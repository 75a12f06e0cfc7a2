use Rattle.std.proofs.Common.{◌+◌, length, [], sym}
use Rattle.std.proofs.lemmas.Bool.{eqb-true, eqb-false}
use Rattle.std.proofs.lemmas.Result.{err_from_is_err_and}
use Rattle.op_msg.specs.Reading.{documents_at}
use Rattle.op_msg.proofs.Turns.{documents_more, documents_end, documents_refused, documents_out}
use Rattle.op_msg.proofs.reading.read_documents.Goals as goal

pub returns-then-is_empty : goal.returns-then-is_empty
returns-then-is_empty c = documents_end (length c.args.bytes.now + 1) c.loop.counter
    c.loop.docs.items c.loop.rest.now (documents_at (length c.args.bytes.now + 1) []
    c.args.bytes.now) c.loop-test.true (eqb-true _ _ (sym c.if-is_empty.ensures)) c.loop.invariant

pub returns-in_err-doc : goal.returns-in_err-doc
returns-in_err-doc c =
    let p = err_from_is_err_and c.from_residual.result c.from_residual.ensures.1 in
    rw (p.1, p.2) (documents_refused (length c.args.bytes.now + 1)
    c.loop.counter c.loop.docs.items c.loop.rest.now c.in_err-doc.field-0.0
    (documents_at (length c.args.bytes.now + 1) [] c.args.bytes.now) c.loop-test.true
    (eqb-false _ _ (sym c.if-is_empty.ensures)) c.in_err-doc.ensures c.loop.invariant)

pub loop-preserved : goal.loop-preserved
loop-preserved c =
    rw c.in_ok-push.ensures.items (documents_more (length c.args.bytes.now + 1)
    c.loop.counter c.loop.docs.items c.loop.rest.now c.in_ok-doc.after.now c.in_ok-doc.doc
    (documents_at (length c.args.bytes.now + 1) [] c.args.bytes.now) c.loop-test.true
    (eqb-false _ _ (sym c.if-is_empty.ensures)) c.in_ok-doc.ensures c.loop.invariant)

pub returns : goal.returns
returns c = documents_out (length c.args.bytes.now + 1) c.loop.counter c.loop.docs.items
    c.loop.rest.now (documents_at (length c.args.bytes.now + 1) [] c.args.bytes.now)
    c.loop-test.false c.loop.invariant
