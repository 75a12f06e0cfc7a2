use Rattle.op_msg.proofs.Fronts.{no_front}
use Rattle.op_msg.proofs.Messages.{one_message}
use Rattle.op_msg.proofs.laws.messages_are_told_apart.Goals as goal

pub returns-clause-no_front : goal.returns-clause-no_front
returns-clause-no_front c = no_front

pub returns-clause-one : goal.returns-clause-one
returns-clause-one c = one_message
