use Rattle.std.proofs.Common.{subst, arith}
use Rattle.op_msg.specs.Errors.{Gives}
use Rattle.op_msg.proofs.Messages.{is_found, frame_again}
use Rattle.op_msg.proofs.reading.read_frame.Goals as goal

pub returns-clause-found : goal.returns-clause-found
returns-clause-found c = is_found c.args.bytes.now c.read_whole.result (λ i.
    omega (arith, c.type_inv.bytes i)) c.read_whole.ensures

pub returns-clause-only : goal.returns-clause-only
returns-clause-only c = λ f message. subst (λ r. Gives (λ f. f) c.read_whole.result r)
    (frame_again c.args.bytes.now f message) c.read_whole.ensures
