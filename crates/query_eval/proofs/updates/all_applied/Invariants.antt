use Rattle.std.proofs.Common.{◌≡◌, drop}
use Rattle.txn_semantics.specs.Updates.{all_applied}
use Rattle.query_eval.proofs.updates.all_applied.Given as goal

abbrev pub invariant-loop-op : goal.invariant-loop-op
invariant-loop-op l = all_applied (drop l.op-index l.ops) l.new ≡ all_applied l.ops l.doc
