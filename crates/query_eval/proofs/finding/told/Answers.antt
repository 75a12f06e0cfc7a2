use Rattle.std.proofs.Common.{◌≡◌, map, ap, subst, ◌∙◌}
use Rattle.std.specs.Result.{IfOk}
use Rattle.txn_semantics.specs.Found.{first_of, ordered, cut_marks}
use Rattle.txn_semantics.specs.Meaning.{rows_of, document_rules}
use Rattle.query_eval.specs.Held.{mark_of}
use Rattle.query_eval.proofs.Telling.{map-ordered, map-first_of}
use Rattle.query_eval.proofs.finding.told.Goals as goal

pub returns : goal.returns
returns c =
    let marks : map mark_of c.deref.result.now
    ≡ first_of c.args.limit (ordered c.args.down (map mark_of c.args.marks.items)) =
    ap (map mark_of) (c.deref.ensures.value ∙ c.first_of-marks.ensures
    ∙ ap (first_of c.args.limit) c.ordered.ensures)
    ∙ map-first_of mark_of c.args.limit (ordered c.args.down c.args.marks.items)
    ∙ ap (first_of c.args.limit) (map-ordered mark_of c.args.down c.args.marks.items) in
    subst (λ xs. IfOk c.cut.result (λ r. r ≡ rows_of (cut_marks document_rules 16000000 xs))) marks
    c.cut.ensures
