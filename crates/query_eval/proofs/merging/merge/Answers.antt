use Rattle.std.proofs.Common.{ap, sym, ◌∙◌}
use Rattle.txn_semantics.specs.Found.{ordered, cut_marks, first_of}
use Rattle.txn_semantics.specs.Meaning.{rows_of, document_rules}
use Rattle.txn_semantics.specs.Merge.{merge}
use Rattle.query_eval.proofs.merging.merge.Goals as goal

pub returns-in_ok-told-in-Find-clause-ok : goal.returns-in_ok-told-in-Find-clause-ok
returns-in_ok-told-in-Find-clause-ok c =
    c.in_ok-told-in-Find.ensures
    ∙ ap (λ xs. rows_of (cut_marks document_rules 16000000
    (first_of c.in-Find.limit (ordered c.in-Find.down xs)))) c.in_ok-marks-in-Find.ensures
    ∙ ap (λ op. merge op c.args.parts.now) (sym c.in-Find.is)
