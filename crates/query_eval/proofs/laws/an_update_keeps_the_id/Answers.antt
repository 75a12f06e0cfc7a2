use Rattle.query_eval.proofs.SameIds.{keeps_id}
use Rattle.query_eval.proofs.laws.an_update_keeps_the_id.Goals as goal

pub returns : goal.returns
returns c = keeps_id
