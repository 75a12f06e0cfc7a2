use Rattle.client_reply.proofs.documents.put_primary.Goals as goal

pub returns-else-old_name : goal.returns-else-old_name
returns-else-old_name c = rw c.if-old_name.false c.put-else-old_name.ensures
