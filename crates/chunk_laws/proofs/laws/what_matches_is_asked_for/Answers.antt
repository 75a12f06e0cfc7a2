use Rattle.chunk_laws.proofs.Asked.{asked}
use Rattle.chunk_laws.proofs.laws.what_matches_is_asked_for.Goals as goal

pub returns : goal.returns
returns c = asked
