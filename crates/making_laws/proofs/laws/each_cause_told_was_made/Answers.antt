use Rattle.making_laws.proofs.Running.{all_made}
use Rattle.making_laws.proofs.laws.each_cause_told_was_made.Goals as goal

pub returns : goal.returns
returns c = all_made
