use Rattle.request_laws.proofs.Meanings.{eval_fits}
use Rattle.request_laws.proofs.laws.what_is_written_fits.Goals as goal

pub returns : goal.returns
returns c o rows g h = eval_fits o rows g h
