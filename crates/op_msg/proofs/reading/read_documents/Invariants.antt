use Rattle.std.proofs.Common.{◌≡◌, ◌+◌, ◌-◌, length, []}
use Rattle.op_msg.specs.Reading.{documents_at}
use Rattle.op_msg.proofs.reading.read_documents.Given as goal

abbrev pub invariant-loop : goal.invariant-loop
invariant-loop l = documents_at (length l.bytes + 1 - l.counter) l.docs.items l.rest
    ≡ documents_at (length l.bytes + 1) [] l.bytes
