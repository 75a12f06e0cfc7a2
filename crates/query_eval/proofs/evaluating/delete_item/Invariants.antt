use Rattle.txn_semantics.specs.Effect.{without}
use Rattle.query_eval.specs.Acts.{no_content}
use Rattle.query_eval.proofs.Passing.{Between}
use Rattle.query_eval.proofs.Turning.{gone}
use Rattle.query_eval.proofs.evaluating.delete_item.Given as goal

abbrev pub invariant-loop-at : goal.invariant-loop-at
invariant-loop-at l = Between gone l.item.filter l.item.many no_content without l.fn.rows l.rows
    l.at l.at-end l.met.n l.met.changed
