use Rattle.std.proofs.Common.{◌≡◌, ◌-◌}
use Rattle.op_msg.specs.Reading.{least_flag}
use Rattle.op_msg.proofs.reading.least_unknown_flag.Given as goal

abbrev pub invariant-loop-bit : goal.invariant-loop-bit
invariant-loop-bit l = least_flag (16 - l.bit) l.bit l.flags ≡ least_flag 14 2 l.flags
