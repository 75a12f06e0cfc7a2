use Rattle.std.proofs.Common.{sym}
use Rattle.op_msg.specs.Reading.{least_flag}
use Rattle.op_msg.proofs.Turns.{flag_passed}
use Rattle.op_msg.proofs.reading.least_unknown_flag.Goals as goal

pub loop-bit-preserved : goal.loop-bit-preserved
loop-bit-preserved c = flag_passed c.loop-bit.bit c.args.flags (least_flag 14 2 c.args.flags)
    c.loop-bit-test.true (sym c.if-has_flag.ensures) c.loop-bit.invariant
