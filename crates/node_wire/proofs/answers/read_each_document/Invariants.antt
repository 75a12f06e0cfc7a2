use Rattle.std.proofs.Common.{◌≡◌, ◌-◌, []}
use Rattle.node_wire.specs.Reading.{each_at, document_at}
use Rattle.node_wire.proofs.answers.read_each_document.Given as goal

abbrev pub invariant-loop : goal.invariant-loop
invariant-loop l = each_at (document_at l.end) (l.count - l.counter) l.docs.items l.rest
    ≡ each_at (document_at l.end) l.count [] l.bytes
