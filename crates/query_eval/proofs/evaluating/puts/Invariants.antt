use Rattle.std.proofs.Common.{◌≡◌, ◌++◌, length, map}
use Rattle.txn_semantics.specs.Effect.{AreKnown}
use Rattle.txn_semantics.specs.Meaning.{document_rules, put_of}
use Rattle.query_eval.proofs.evaluating.puts.Given as goal

abbrev pub invariant-loop-id : goal.invariant-loop-id
invariant-loop-id l = record {
  written : l.writes ++ map (put_of l.ns) l.added.entries ≡ map (put_of l.ns) l.initial.added.entries;
  known : AreKnown document_rules l.added.entries;
}

abbrev pub decreases-loop-id : goal.decreases-loop-id
decreases-loop-id l = length l.added.entries
