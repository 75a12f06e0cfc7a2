use Rattle.coordinator.proofs.Deciding as deciding
use Rattle.coordinator.proofs.laws.first_votes_decide.Goals as goal

pub returns : goal.returns
returns c = deciding.first_votes_decide
