use Rattle.std.proofs.Common.{◌≡◌, length}
use Rattle.participant.specs.Expiry.{expire_all}
use Rattle.participant.proofs.part.Participant.expire.Given as goal

abbrev pub invariant-loop-lsid : goal.invariant-loop-lsid
invariant-loop-lsid l =
    expire_all l.wall l.self.live l.self ≡ expire_all l.wall l.initial.self.live l.initial.self

abbrev pub decreases-loop-lsid : goal.decreases-loop-lsid
decreases-loop-lsid l = length l.self.live
