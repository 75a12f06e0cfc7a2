use Rattle.reply_laws.proofs.Running.{all_told}
use Rattle.reply_laws.proofs.laws.replies_tell_what_was_answered.Goals as goal

pub returns : goal.returns
returns c = all_told
