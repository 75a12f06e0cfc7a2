use Rattle.codec_laws.proofs.Framed.{current_spelt, reply_spelt}
use Rattle.codec_laws.proofs.messages.a_message_has_one_spelling.Goals as goal

pub returns-clause-current : goal.returns-clause-current
returns-clause-current c = current_spelt

pub returns-clause-reply : goal.returns-clause-reply
returns-clause-reply c = reply_spelt
