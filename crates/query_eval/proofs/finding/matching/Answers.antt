use Rattle.std.proofs.Common.{◌+◌, ◌++◌, Some, drop, map, sym, ap, ◌∙◌}
use Rattle.txn_types.specs.declared.id.Id.{Id}
use Rattle.txn_semantics.specs.Effect.{matching}
use Rattle.txn_semantics.specs.Meaning.{document_rules}
use Rattle.query_eval.specs.Held.{mark_of, some_of, rows_in}
use Rattle.query_eval.specs.declared.held.Held.TheVariants.{Lent}
use Rattle.query_eval.proofs.Telling.{matching_more, place_is}
use Rattle.query_eval.proofs.finding.matching.Goals as goal

pub loop-id-preserved : goal.loop-id-preserved
loop-id-preserved c =
    matching_more c.args.filter.now c.loop-id.marks.items c.push.new.self.items
    c.loop-id-item.result (drop (c.loop-id.id-index + 1) c.args.rows.now) c.in-Some.doc.now
    (c.in_ok-copy.field-0, Lent c.in-Some.doc)
    (sym c.in-Some.ensures) c.in_ok-push.ensures.items
    (ap (λ (i : Id). (i, Some c.in-Some.doc.now)) c.in_ok-copy.ensures)
    ∙ ap (λ xs. map mark_of c.loop-id.marks.items ++ map some_of
    (matching document_rules c.args.filter.now (rows_in xs))) (sym (place_is c.args.rows.now
    c.loop-id.id-index c.loop-id-item.result c.loop-id-item.is c.loop-id-test.true))
    ∙ c.loop-id.invariant
