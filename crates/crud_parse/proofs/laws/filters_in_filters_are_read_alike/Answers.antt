use Rattle.crud_parse.proofs.Levels.{filter_again}
use Rattle.crud_parse.proofs.laws.filters_in_filters_are_read_alike.Goals as goal

pub returns : goal.returns
returns c = filter_again
