use Rattle.std.proofs.Common.{append_assoc, FitsSigned, rules}
use Rattle.std.proofs.lemmas.Int.{to_z-of_z}
use Rattle.std.specs.Int.{w32}
use Rattle.op_msg.specs.Message.{reply_front}
use Rattle.op_msg.proofs.writing.put_reply_front.Goals as goal

pub returns-clause-ok : goal.returns-clause-ok
unfolding reply_front
returns-clause-ok c =
    let request_id : FitsSigned w32 c.args.frame.now.request_id = search rules in
    let response_to : FitsSigned w32 c.args.frame.now.response_to = search rules in
    let written = rw (
      c.in_ok-put_word-8.ensures.ok,
      c.in_ok-put_word-7.ensures.ok,
      c.in_ok-put_word-6.ensures.ok,
      c.in_ok-put_word-5.ensures.ok,
      c.in_ok-put_word-4.ensures.ok,
      c.in_ok-put_word-3.ensures.ok,
      c.in_ok-put_word-2.ensures.ok,
      c.in_ok-put_word.ensures.ok,
      c.cast_unsigned.ensures,
      c.cast_unsigned-2.ensures,
      to_z-of_z w32 _ request_id,
      to_z-of_z w32 _ response_to,
    ) at c.put_word-9.ensures.ok in
    simp append_assoc (simp append_assoc at written)
