use Rattle.std.proofs.Common.{◌≡◌, drop}
use Rattle.version_store.specs.Versions.{conflict}
use Rattle.participant.proofs.part.Participant.conflict.Given as goal

abbrev pub invariant-loop-write : goal.invariant-loop-write
invariant-loop-write l = conflict l.self.store l.read_at l.m.tag (drop l.write-index l.writes)
    ≡ conflict l.self.store l.read_at l.m.tag l.writes
