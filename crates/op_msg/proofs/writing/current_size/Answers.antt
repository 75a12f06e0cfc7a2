use Rattle.std.proofs.Common.{ap, arith, length}
use Rattle.op_msg.specs.Message.{sequences}
use Rattle.op_msg.proofs.Fronts.{length_sections, length_message}
use Rattle.op_msg.proofs.writing.current_size.Goals as goal

pub returns : goal.returns
returns c =
    let inside = length_sections c.args.frame.now in
    let whole = length_message c.args.frame.now in
    omega (arith, ap (λ s. length (sequences s)) c.as_slice.ensures)
