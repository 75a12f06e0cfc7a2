use Rattle.std.proofs.Common.{arith}
use Rattle.journal_rec.specs.Volume.{writes_bytes}
use Rattle.record_store.proofs.Sizes.{length_writes, with_room, carried_in}
use Rattle.record_store.proofs.payload.Payload.of_writes.Goals as goal

pub invariant_of-result : goal.invariant_of-result
invariant_of-result c =
    with_room c.in_ok-bytes.bytes.items (writes_bytes c.args.writes.now)
    c.encode_writes.new.out.items c.in_ok-bytes.ensures c.in-Ok.ensures.ok
    (omega (arith, length_writes c.args.writes.now c.requires))

pub returns-in-Ok : goal.returns-in-Ok
returns-in-Ok c = carried_in c.in_ok-bytes.bytes.items (writes_bytes c.args.writes.now)
    c.encode_writes.new.out.items c.in_ok-bytes.ensures c.in-Ok.ensures.ok
