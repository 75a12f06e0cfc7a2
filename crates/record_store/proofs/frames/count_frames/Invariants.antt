use Rattle.std.proofs.Common.{◌-◌}
use Rattle.record_store.proofs.Counting.{Counting}
use Rattle.record_store.proofs.frames.count_frames.Given as goal

abbrev pub invariant-loop-size : goal.invariant-loop-size
invariant-loop-size g l = Counting g.D.Disk l.fn.disk l.disk l.count l.place l.len

abbrev pub decreases-loop-size : goal.decreases-loop-size
decreases-loop-size g l = l.len - l.place
