use Rattle.std.proofs.Common.{drop}
use Rattle.query_eval.specs.Held.{rows_in}
use Rattle.query_eval.proofs.Adding.{AddedSoFar}
use Rattle.query_eval.proofs.evaluating.insert.Given as goal

abbrev pub invariant-loop-item : goal.invariant-loop-item
invariant-loop-item l =
    AddedSoFar l.items (drop l.item-index l.items) (rows_in l.rows) l.added.entries l.n
