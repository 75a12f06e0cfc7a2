use Rattle.txn_semantics.specs.Effect.{updated}
use Rattle.txn_semantics.specs.Meaning.{document_rules}
use Rattle.txn_semantics.specs.Rows.{laid_over}
use Rattle.query_eval.specs.Acts.{put_content}
use Rattle.query_eval.proofs.Passing.{Between}
use Rattle.query_eval.proofs.evaluating.update_item.Given as goal

abbrev pub invariant-loop-at : goal.invariant-loop-at
invariant-loop-at l = Between (updated document_rules l.item) l.item.filter l.item.many put_content
    laid_over l.fn.rows l.rows l.at l.at-end l.met.n l.met.changed
