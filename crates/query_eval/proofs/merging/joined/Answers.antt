use Rattle.std.proofs.Common.{◌+◌, map, drop, ap, sym, ◌∙◌}
use Rattle.txn_semantics.specs.Found.{Found, ordered, marks_of, joined}
use Rattle.txn_semantics.specs.Meaning.{document_rules}
use Rattle.txn_semantics.specs.Merge.{found_of}
use Rattle.txn_semantics.specs.Rows.{laid_over}
use Rattle.query_eval.specs.Held.{mark_of}
use Rattle.query_eval.proofs.Joining.{part_laid}
use Rattle.query_eval.proofs.Telling.{map-ordered, place_is}
use Rattle.query_eval.proofs.merging.joined.Goals as goal

pub loop-part-preserved : goal.loop-part-preserved
loop-part-preserved c =
    let down = c.args.down in
    let told = λ (f : Found). ordered down (marks_of document_rules f) in
    let rest = map told (map found_of (drop (c.loop-part.part-index + 1) c.args.parts.now)) in
    let marks = ap (map mark_of) c.ordered-marks.ensures
    ∙ map-ordered mark_of down c.in_ok-marks_of.field-0.items
    ∙ ap (ordered down) c.in_ok-marks_of.ensures in
    let all = ap (map mark_of) c.in_ok-lay.ensures.laid
    ∙ part_laid c.loop-part.all.items c.ordered-marks.result.items
    ∙ ap (laid_over (map mark_of c.loop-part.all.items)) marks in
    record {
      joins = ap (λ xs. joined xs rest) all ∙ ap (λ xs. joined (map mark_of c.loop-part.all.items)
          (map told (map found_of xs))) (sym (place_is c.args.parts.now c.loop-part.part-index
          c.part-item.result c.part-item.is c.loop-part-test.true)) ∙ c.loop-part.invariant.joins;
      rising = c.in_ok-lay.ensures.rising;
    }
