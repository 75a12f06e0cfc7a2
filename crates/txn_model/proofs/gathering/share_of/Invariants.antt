use Rattle.std.proofs.Common.{◌≡◌, drop, map, [], None}
use Rattle.txn_model.specs.Commits.{prepared_at}
use Rattle.txn_model.specs.Gathering.{gathered}
use Rattle.txn_model.proofs.gathering.share_of.Given as goal

abbrev pub invariant-loop-part : goal.invariant-loop-part
invariant-loop-part l =
    gathered l.share (prepared_at (map (λ j. j.now) l.journals) l.tag (drop l.part-index l.parts))
    ≡ gathered (record { read_at = None; writes = [] })
    (prepared_at (map (λ j. j.now) l.journals) l.tag l.parts)
