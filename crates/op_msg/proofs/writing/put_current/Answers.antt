use Rattle.std.proofs.Common.{◌≡◌, ◌+◌, ℕ, List, length, arith, refl, append_assoc}
use Rattle.op_msg.specs.Message.{sections}
use Rattle.op_msg.proofs.Fronts.{length_message}
use Rattle.op_msg.proofs.writing.put_current.Goals as goal

pub returns-clause-ok : goal.returns-clause-ok
returns-clause-ok c =
    let whole = length_message c.args.frame.now in
    let len : c.args.len ≡ 20 + length (sections c.args.frame.now) =
    omega (arith, c.requires.sized) in
    rw (c.in_ok-put_sections.ensures.ok, c.in_ok-put_front.ensures.ok, len, append_assoc)
    (refl {A = List ℕ})
