use Rattle.command_parse.proofs.Placing.{has_places}
use Rattle.command_parse.proofs.laws.items_have_places.Goals as goal

pub returns : goal.returns
returns c = has_places
