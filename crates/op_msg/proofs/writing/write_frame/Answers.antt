use Rattle.std.proofs.Common.{ℕ, List, refl}
use Rattle.op_msg.proofs.writing.write_frame.Goals as goal

pub returns-clause-ok : goal.returns-clause-ok
returns-clause-ok c = rw (
  c.in_ok-extend_from_slice.ensures.items,
  c.deref.ensures.value,
  c.in_ok-put_message.ensures.ok,
  c.new-whole.ensures.items,
) (refl {A = List ℕ})
