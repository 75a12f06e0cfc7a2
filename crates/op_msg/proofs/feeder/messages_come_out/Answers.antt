use Rattle.op_msg.proofs.Cuts.{message_longer, message_next, message_not_none, messages_given}
use Rattle.op_msg.proofs.feeder.messages_come_out.Goals as goal

pub returns-clause-next : goal.returns-clause-next
returns-clause-next c = λ limit bytes more m. message_next limit bytes more m.frame m.is m.within

pub returns-clause-longer : goal.returns-clause-longer
returns-clause-longer c = message_longer

pub returns-clause-none : goal.returns-clause-none
returns-clause-none c = message_not_none

pub returns-clause-all : goal.returns-clause-all
returns-clause-all c = messages_given
