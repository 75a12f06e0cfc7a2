use Rattle.op_msg.specs.Message.{message}
use Rattle.op_msg.proofs.Messages.{frame_again}
use Rattle.op_msg.proofs.laws.reading_undoes_writing.Goals as goal

pub returns : goal.returns
returns c = λ modern shallow limits. frame_again (message c.args.frame.now) c.args.frame.now
    (c.written_frame_is_a_message.ensures modern shallow limits)
