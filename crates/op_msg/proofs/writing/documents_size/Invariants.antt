use Rattle.std.proofs.Common.{◌≡◌, ◌+◌, ◌-◌, ◌^◌, ◌<◌, length, min, drop}
use Rattle.std.specs.List.{flat_map}
use Rattle.bson_core.specs.Spelling.{spelling}
use Rattle.op_msg.proofs.writing.documents_size.Given as goal

abbrev pub invariant-loop-doc : goal.invariant-loop-doc
invariant-loop-doc l = record {
  fits : l.sum < 2 ^ 64;
  counted : min (l.sum + length (flat_map spelling (drop l.doc-index l.docs))) (2 ^ 64 - 1)
      ≡ min (length (flat_map spelling l.docs)) (2 ^ 64 - 1);
}
