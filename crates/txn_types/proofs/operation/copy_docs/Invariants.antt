use Rattle.std.proofs.Common.{◌≡◌, take}
use Rattle.txn_types.proofs.operation.copy_docs.Given as goal

abbrev pub invariant-loop-doc : goal.invariant-loop-doc
invariant-loop-doc l = l.copy.items ≡ take l.doc-index l.doc-items
