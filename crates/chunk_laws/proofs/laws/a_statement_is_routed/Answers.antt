use Rattle.chunk_laws.proofs.Sent.{routed}
use Rattle.chunk_laws.proofs.laws.a_statement_is_routed.Goals as goal

pub returns : goal.returns
returns c = routed
