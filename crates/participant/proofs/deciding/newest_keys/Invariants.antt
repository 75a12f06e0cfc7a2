use Rattle.std.proofs.Common.{◌≡◌, [], drop}
use Rattle.participant.specs.Stands.{newest_keys}
use Rattle.participant.proofs.deciding.newest_keys.Given as goal

abbrev pub invariant-loop-pending : goal.invariant-loop-pending
invariant-loop-pending l =
    newest_keys l.tag l.keys (drop l.pending-index l.pendings) ≡ newest_keys l.tag [] l.pendings
