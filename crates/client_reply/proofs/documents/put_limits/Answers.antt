use Rattle.std.proofs.Common.{append_assoc}
use Rattle.client_reply.proofs.documents.put_limits.Goals as goal

pub returns : goal.returns
returns c = rw (c.in_ok-put_int-3.ensures, c.in_ok-put_int-2.ensures, c.in_ok-put_int.ensures)
    (simp append_assoc)
