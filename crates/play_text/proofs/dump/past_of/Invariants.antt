use Rattle.std.proofs.Common.{◌≡◌, ◌≤◌, drop}
use Rattle.play_text.specs.Dump.{kept_by, past_from}
use Rattle.play_text.proofs.dump.past_of.Given as goal

abbrev pub invariant-loop-write : goal.invariant-loop-write
invariant-loop-write l = past_from (kept_by l.map) l.past (drop l.write-index l.writes)
    ≡ past_from (kept_by l.map) 0 l.writes
