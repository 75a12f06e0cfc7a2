use Rattle.std.proofs.Common.{refl}
use Rattle.client_reply.proofs.tokens.put_some_token.Goals as goal

pub returns : goal.returns
returns c = rw (c.in_ok-put.ensures, c.in_ok-token_document.ensures) refl
