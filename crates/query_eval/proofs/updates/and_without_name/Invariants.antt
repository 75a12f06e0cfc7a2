use Rattle.std.proofs.Common.{◌≡◌, ◌++◌, drop}
use Rattle.txn_semantics.specs.Updates.{without_name}
use Rattle.query_eval.proofs.updates.and_without_name.Given as goal

abbrev pub invariant-loop-field : goal.invariant-loop-field
invariant-loop-field l = l.fields.items ++ without_name l.name (drop l.field-index l.field-items)
    ≡ l.initial.fields.items ++ without_name l.name l.field-items
