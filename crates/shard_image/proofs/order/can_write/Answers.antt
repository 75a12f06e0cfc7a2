use Rattle.std.proofs.Common.{sym, subst}
use Rattle.shard_image.specs.Image.{Image}
use Rattle.shard_image.specs.Sound.{IsImage}
use Rattle.shard_image.proofs.Asked.{can_write_is}
use Rattle.shard_image.proofs.order.can_write.Goals as goal

pub returns : goal.returns
returns c =
    let sound : IsImage c.args.image.now =
    subst (λ (i : Image). IsImage i) c.image.view_is c.image.invariant in
    rw (c.both.ensures, c.is_next-next.ensures, c.is_clear-clear.ensures, c.as_slice.ensures.writes)
    (sym (can_write_is c.args.image.now sound c.args.tag.now c.args.lsid.now c.args.number.now
    c.args.read_at c.args.at c.args.writes.now))
