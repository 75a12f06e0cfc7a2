use Rattle.std.proofs.Common.{ℕ, drop}
use Rattle.txn_semantics.specs.Effect.{delete_step, without}
use Rattle.txn_semantics.specs.Meaning.{document_rules}
use Rattle.query_eval.specs.Acts.{no_content}
use Rattle.query_eval.proofs.Operating.{SoFar}
use Rattle.query_eval.proofs.evaluating.delete.Given as goal

abbrev pub invariant-loop-item : goal.invariant-loop-item
invariant-loop-item l = (modified : ℕ) × SoFar (delete_step document_rules) no_content without
    l.items (drop l.item-index l.items) l.fn.rows.items l.rows.items l.n modified
