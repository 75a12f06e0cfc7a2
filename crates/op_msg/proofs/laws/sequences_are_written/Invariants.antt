use Rattle.std.proofs.Common.{take}
use Rattle.std.specs.List.{All}
use Rattle.op_msg.specs.Written.{IsSequenceWritten}
use Rattle.op_msg.proofs.laws.sequences_are_written.Given as goal

abbrev pub invariant-loop-name : goal.invariant-loop-name
invariant-loop-name l = All IsSequenceWritten (take l.name-index l.seqs)
