use Rattle.std.proofs.Common.{take}
use Rattle.play_script.specs.Counting.{Counted}
use Rattle.play_script.proofs.input.LineCount.end_in.Given as goal

abbrev pub invariant-loop-place : goal.invariant-loop-place
invariant-loop-place l = Counted (take l.place l.bytes) l.self
