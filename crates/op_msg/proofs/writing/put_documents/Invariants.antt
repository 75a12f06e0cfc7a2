use Rattle.std.proofs.Common.{◌≡◌, ◌≤◌, ◌++◌, drop, length}
use Rattle.std.specs.List.{flat_map}
use Rattle.bson_core.specs.Spelling.{spelling}
use Rattle.op_msg.proofs.writing.put_documents.Given as goal

abbrev pub invariant-loop-doc : goal.invariant-loop-doc
invariant-loop-doc l = record {
  written : l.out.items ++ flat_map spelling (drop l.doc-index l.docs)
      ≡ l.initial.out.items ++ flat_map spelling l.docs;
  small : length (flat_map spelling (drop l.doc-index l.docs)) ≤ length (flat_map spelling l.docs);
}
