use Rattle.answer_laws.proofs.Running.{all_parts}
use Rattle.answer_laws.proofs.laws.statements_are_parts_of_requests.Goals as goal

pub returns : goal.returns
returns c = all_parts
