use Rattle.std.proofs.Common.{arith}
use Rattle.op_msg.proofs.Messages.{frame_again, frame_found}
use Rattle.op_msg.proofs.laws.message_has_no_fault.Goals as goal

pub returns-clause-read : goal.returns-clause-read
returns-clause-read c = frame_again c.args.bytes.now

pub returns-clause-found : goal.returns-clause-found
returns-clause-found c =
    λ f read. frame_found c.args.bytes.now f (λ i. omega (arith, c.type_inv.bytes i)) read
