use Rattle.std.proofs.Common.{append_assoc}
use Rattle.client_reply.proofs.documents.put_kind_of_server.Goals as goal

pub returns : goal.returns
returns c = rw (c.in_ok-put_text.ensures, c.in_ok-kind.ensures.ok, c.in_ok-put_primary.ensures)
    (simp append_assoc)
