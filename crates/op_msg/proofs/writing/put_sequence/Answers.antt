use Rattle.std.proofs.Common.{◌≡◌, ◌+◌, ◌-◌, length, arith, append_assoc}
use Rattle.std.specs.List.{flat_map}
use Rattle.bson_core.specs.Spelling.{spelling}
use Rattle.op_msg.proofs.Fronts.{section_is, length_sequence_section}
use Rattle.op_msg.proofs.writing.put_sequence.Goals as goal

pub overflow_sub-size : goal.overflow_sub-size
overflow_sub-size c = let len =
    length_sequence_section c.args.name.now (flat_map spelling c.args.docs.now) in omega arith

pub put_documents-requires : goal.put_documents-requires
put_documents-requires c = let len =
    length_sequence_section c.args.name.now (flat_map spelling c.args.docs.now) in omega arith

pub returns-clause-ok : goal.returns-clause-ok
returns-clause-ok c =
    let len = length_sequence_section c.args.name.now (flat_map spelling c.args.docs.now) in
    let size : 4 + length c.args.name.now + 1 + length (flat_map spelling c.args.docs.now)
    ≡ c.sequence_size.result - 1 = omega arith in
    let written = simp append_assoc at (rw (
      c.in_ok-push-2.ensures.items,
      c.in_ok-extend_from_slice.ensures.items,
      c.in_ok-put_word.ensures.ok,
      c.in_ok-push.ensures.items,
      c.as_bytes.ensures.value,
      c.as_str.ensures.text,
    ) at c.put_documents.ensures.ok) in
    rw (section_is (c.sequence_size.result - 1) c.args.name.now (flat_map spelling c.args.docs.now)
    size) written
