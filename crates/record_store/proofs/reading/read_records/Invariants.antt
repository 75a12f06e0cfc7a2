use Rattle.std.proofs.Common.{map, drop}
use Rattle.record_store.proofs.Gathered.{Reading}
use Rattle.record_store.proofs.reading.read_records.Given as goal

abbrev pub invariant-loop-number : goal.invariant-loop-number
invariant-loop-number l =
    Reading l.records.items l.number (map (λ p. p.items) (drop l.number l.payloads))
    (map (λ p. p.items) l.payloads)
