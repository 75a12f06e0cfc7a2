use Rattle.std.proofs.Common.{ap, ◌∙◌}
use Rattle.bson_core.specs.Names.{has_no_zero}
use Rattle.bson_core.proofs.Names.{no_zero_before_place}
use Rattle.bson_core.proofs.reading.front_name.Goals as goal

pub from_str-requires : goal.from_str-requires
from_str-requires c = ap has_no_zero c.in-Some-text_in.ensures.1
    ∙ no_zero_before_place c.args.bytes.now c.in-Some.len c.in-Some.ensures.place
