use Rattle.std.proofs.Common.{subst}
use Rattle.std.specs.List.{All}
use Rattle.op_msg.specs.Written.{IsSequenceWritten}
use Rattle.op_msg.proofs.Written.{is_message}
use Rattle.op_msg.proofs.laws.written_frame_is_a_message.Goals as goal

pub returns : goal.returns
returns c =
    is_message c.args.frame.now c.numbers_fit.ensures.request_id
    c.numbers_fit.ensures.response_to c.spelling_is_in_the_grammar.ensures
    (subst (All IsSequenceWritten) c.as_slice.ensures c.sequences_are_written.ensures)
