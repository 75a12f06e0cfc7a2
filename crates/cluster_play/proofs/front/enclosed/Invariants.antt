use Rattle.std.proofs.Common.{◌≡◌, ◌≤◌, ◌+◌, length, option_map}
use Rattle.play_script.specs.Lines.{lines_of}
use Rattle.cluster_play.specs.Schedule.{up_to_marker, marked_by}
use Rattle.cluster_play.proofs.Fronts.{gathered}
use Rattle.cluster_play.proofs.front.enclosed.Given as goal

abbrev pub invariant-loop-rest : goal.invariant-loop-rest
invariant-loop-rest l = record {
  found : gathered l.text.items l.taken (lines_of l.rest)
      ≡ option_map marked_by (up_to_marker (lines_of l.lines));
  few : l.taken + length l.rest ≤ length l.lines + 1;
}

abbrev pub decreases-loop-rest : goal.decreases-loop-rest
decreases-loop-rest l = length l.rest
