use Rattle.std.proofs.Common.{◌≡◌, ◌++◌, map, drop}
use Rattle.txn_semantics.specs.Effect.{matching}
use Rattle.txn_semantics.specs.Meaning.{document_rules}
use Rattle.query_eval.specs.Held.{mark_of, some_of, rows_in}
use Rattle.query_eval.proofs.finding.matching.Given as goal

abbrev pub invariant-loop-id : goal.invariant-loop-id
invariant-loop-id l = map mark_of l.marks.items
    ++ map some_of (matching document_rules l.filter (rows_in (drop l.id-index l.rows)))
    ≡ map some_of (matching document_rules l.filter (rows_in l.rows))
