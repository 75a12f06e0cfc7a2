use Rattle.std.proofs.Common.{◌≤◌, ◌-◌, ◌^◌, [], length}
use Rattle.outside_core.proofs.Steps.{Reading}
use Rattle.play_script.specs.Counting.{Counted}
use Rattle.play_script.proofs.input.read_input.Given as goal

abbrev pub invariant-loop-bytes : goal.invariant-loop-bytes
invariant-loop-bytes g l = record {
  later : g.S.Source.fault_count l.initial.src ≤ g.S.Source.fault_count l.src;
  read : Reading (g.S.Source.left l.initial.src) (g.S.Source.left l.src) [] l.bytes.items;
  counted : Counted l.bytes.items l.count;
}

-- each turn takes at least one byte, and a list of bytes has fewer than 2 ^ 63
abbrev pub decreases-loop-bytes : goal.decreases-loop-bytes
decreases-loop-bytes g l = 2 ^ 63 - length l.bytes.items
