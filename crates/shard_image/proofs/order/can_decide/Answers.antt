use Rattle.std.proofs.Common.{refl}
use Rattle.shard_image.proofs.Asked.{standing_is}
use Rattle.shard_image.proofs.order.can_decide.Goals as goal

pub returns : goal.returns
returns c = rw
    (c.both.ensures, c.is_below_ceiling-below.ensures, c.is_decision-decides.ensures, standing_is)
    refl
