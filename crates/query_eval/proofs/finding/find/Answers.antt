use Rattle.std.proofs.Common.{◌≡◌, ap, subst, ◌∙◌}
use Rattle.std.specs.Result.{IfOk}
use Rattle.txn_semantics.specs.Effect.{matching}
use Rattle.txn_semantics.specs.Found.{first_of, ordered, cut_marks}
use Rattle.txn_semantics.specs.Meaning.{rows_of, document_rules}
use Rattle.query_eval.specs.Held.{rows_in}
use Rattle.query_eval.proofs.Telling.{found_some}
use Rattle.query_eval.proofs.finding.find.Goals as goal

pub returns : goal.returns
returns c =
    let same = ap (λ xs. cut_marks document_rules 16000000 (first_of c.args.limit
    (ordered c.args.down xs))) c.in_ok-marks.ensures ∙ found_some 16000000 c.args.down
    c.args.limit (matching document_rules c.args.filter.now (rows_in c.args.rows.now)) in
    subst (λ told. IfOk c.told.result (λ r. r ≡ rows_of told)) same c.told.ensures
