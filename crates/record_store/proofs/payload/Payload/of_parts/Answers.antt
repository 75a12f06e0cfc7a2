use Rattle.std.proofs.Common.{arith}
use Rattle.journal_rec.specs.Spelling.{parts_bytes}
use Rattle.record_store.proofs.Sizes.{length_parts, with_room, carried_in}
use Rattle.record_store.proofs.payload.Payload.of_parts.Goals as goal

pub invariant_of-result : goal.invariant_of-result
invariant_of-result c =
    with_room c.in_ok-bytes.bytes.items (parts_bytes c.args.parts.now) c.encode_parts.new.out.items
    c.in_ok-bytes.ensures c.in-Ok.ensures.ok
    (omega (arith, length_parts c.args.parts.now, c.as_slice-count.ensures.most))

pub returns-in-Ok : goal.returns-in-Ok
returns-in-Ok c = carried_in c.in_ok-bytes.bytes.items (parts_bytes c.args.parts.now)
    c.encode_parts.new.out.items c.in_ok-bytes.ensures c.in-Ok.ensures.ok
