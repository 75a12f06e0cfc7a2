use Rattle.std.proofs.Common.{◌≡◌, ◌+◌, ◌-◌, ◌^◌, ◌<◌, length, min, drop}
use Rattle.op_msg.specs.Message.{sequences}
use Rattle.op_msg.proofs.writing.sequences_size.Given as goal

abbrev pub invariant-loop-name : goal.invariant-loop-name
invariant-loop-name l = record {
  fits : l.sum < 2 ^ 64;
  counted : min (l.sum + length (sequences (drop l.name-index l.seqs))) (2 ^ 64 - 1)
      ≡ min (length (sequences l.seqs)) (2 ^ 64 - 1);
}
