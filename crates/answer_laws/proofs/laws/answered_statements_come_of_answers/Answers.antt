use Rattle.answer_laws.proofs.Answered.{all_answered}
use Rattle.answer_laws.proofs.laws.answered_statements_come_of_answers.Goals as goal

pub returns : goal.returns
returns c = all_answered
