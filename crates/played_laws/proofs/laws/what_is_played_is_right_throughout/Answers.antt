use Rattle.played_laws.proofs.Throughout.{right_by}
use Rattle.played_laws.proofs.laws.what_is_played_is_right_throughout.Goals as goal

pub returns : goal.returns
returns g c lines held held' ending w = right_by _ lines held held' ending w
