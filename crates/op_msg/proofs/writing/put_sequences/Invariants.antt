use Rattle.std.proofs.Common.{◌≡◌, ◌≤◌, ◌++◌, drop, length}
use Rattle.op_msg.specs.Message.{sequences}
use Rattle.op_msg.proofs.writing.put_sequences.Given as goal

abbrev pub invariant-loop-name : goal.invariant-loop-name
invariant-loop-name l = record {
  written : l.out.items ++ sequences (drop l.name-index l.seqs)
      ≡ l.initial.out.items ++ sequences l.seqs;
  small : length (sequences (drop l.name-index l.seqs)) ≤ length (sequences l.seqs);
}
