use Rattle.std.proofs.Common.{ℕ, List, codes, arith}
use Rattle.std.proofs.lemmas.Grind.{common_steps}
use Rattle.bson_core.specs.declared.value.Value.{Value}
use Rattle.bson_text.specs.Text.{field_text, value_text}
use Rattle.bson_text.proofs.Pieces.{join_by_more}
use Rattle.bson_text.proofs.printing.+put.Goals as goal

pub put_document-loop-place-preserved : goal.put_document-loop-place-preserved
put_document-loop-place-preserved t c =
    let more = join_by_more field_text (codes ", ") (λ (field : List ℕ × Value).
    (field.0, value_text field.1)) c.args.fields.now c.loop-place.place
    c.index-fields-place.result c.loop-place-test.true in
    grind (arith, common_steps, more, c.in_ok-put_field.ensures, c.in_ok-put_separator.ensures)

pub put_list-loop-place-preserved : goal.put_list-loop-place-preserved
put_list-loop-place-preserved t c =
    let more = join_by_more (λ (text : List ℕ). text) (codes ", ") value_text c.args.values.now
    c.loop-place.place c.index-values-place.result c.loop-place-test.true in
    grind (arith, common_steps, more, c.in_ok-put_value.ensures, c.in_ok-put_separator.ensures)
