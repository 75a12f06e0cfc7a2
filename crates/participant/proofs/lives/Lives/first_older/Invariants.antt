use Rattle.std.proofs.Common.{◌≡◌, find}
use Rattle.participant.specs.Stands.{is_older}
use Rattle.participant.proofs.lives.Lives.first_older.Given as goal

abbrev pub invariant-loop-key : goal.invariant-loop-key
invariant-loop-key l = find (is_older l.wall) l.key-iterator ≡ find (is_older l.wall) l.self
