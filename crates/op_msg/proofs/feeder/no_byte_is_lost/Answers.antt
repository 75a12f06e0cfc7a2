use Rattle.op_msg.specs.Stream.{fed, run}
use Rattle.std.proofs.Common.{◌++◌}
use Rattle.op_msg.proofs.Cuts.{joined, run_cuts}
use Rattle.op_msg.proofs.feeder.no_byte_is_lost.Goals as goal

pub returns : goal.returns
returns c = λ limit held steps. joined limit (held
    ++ fed steps) (run limit held steps).0 (run limit held steps).1 (run_cuts limit held steps)
