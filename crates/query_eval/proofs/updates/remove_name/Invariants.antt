use Rattle.std.proofs.Common.{◌≡◌, ◌++◌, length, reverse}
use Rattle.txn_semantics.specs.Updates.{without_name}
use Rattle.query_eval.proofs.updates.remove_name.Given as goal

abbrev pub invariant-loop-field : goal.invariant-loop-field
invariant-loop-field l = without_name l.name l.doc ++ reverse l.fields.items
    ≡ without_name l.name l.initial.doc

abbrev pub decreases-loop-field : goal.decreases-loop-field
decreases-loop-field l = length l.doc
