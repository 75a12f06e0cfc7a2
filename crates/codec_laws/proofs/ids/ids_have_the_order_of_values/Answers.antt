use Rattle.codec_laws.proofs.Keys.{ids_as_values}
use Rattle.codec_laws.proofs.ids.ids_have_the_order_of_values.Goals as goal

pub returns : goal.returns
returns c = ids_as_values
