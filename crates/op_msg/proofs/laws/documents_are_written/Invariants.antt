use Rattle.std.proofs.Common.{take}
use Rattle.std.specs.List.{All}
use Rattle.op_msg.specs.Written.{IsWritten}
use Rattle.op_msg.proofs.laws.documents_are_written.Given as goal

abbrev pub invariant-loop-doc : goal.invariant-loop-doc
invariant-loop-doc l = All IsWritten (take l.doc-index l.docs)
