use Rattle.std.proofs.Common.{List, ◌+◌, drop, map, ap, ◌∙◌, sym}
use Rattle.bson_core.specs.Fields.{Document}
use Rattle.command_parse.specs.Checks.{check_each, behind}
use Rattle.command_parse.specs.Items.{item_check}
use Rattle.command_parse.proofs.Behind.{from_the_next, next_check}
use Rattle.command_parse.proofs.items.check_items.Goals as goal

pub loop-doc-preserved : goal.loop-doc-preserved
loop-doc-preserved c =
    let i = c.loop-doc.doc-index in
    let docs = c.args.docs.now in
    ap (λ missing. behind missing (check_each (item_check c.args.batch)
    (map (λ doc. doc.now) (drop (i + 1) docs)))) c.or-missing.ensures
    ∙ next_check (item_check c.args.batch) c.loop-doc.missing c.in_ok-check_item.field-0
    c.doc-item.result.now _ c.in_ok-check_item.ensures
    ∙ ap (λ (rest : List Document). behind c.loop-doc.missing (check_each (item_check c.args.batch)
    rest)) (sym (from_the_next docs i c.doc-item.result c.loop-doc-test.true c.doc-item.is))
    ∙ c.loop-doc.invariant
