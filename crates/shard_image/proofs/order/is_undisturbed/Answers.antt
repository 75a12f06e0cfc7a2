use Rattle.std.proofs.Common.{◌≡◌, List, ◌&&◌, not, is_none, sym, ap, ◌∙◌}
use Rattle.std.specs.List.{list_any}
use Rattle.txn_types.specs.Order.{same_lsid}
use Rattle.version_store.specs.declared.version.Pending.{Pending}
use Rattle.shard_image.specs.Image.{Image}
use Rattle.shard_image.specs.Sound.{pending_of}
use Rattle.shard_image.proofs.Asked.{undisturbed_is}
use Rattle.shard_image.proofs.order.is_undisturbed.Goals as goal

pub returns : goal.returns
returns c =
    let pending : c.image.inside.pending ≡ c.args.image.now.pending =
    ap (λ (i : Image). i.pending) c.image.view_is in
    c.are_undisturbed.ensures
    ∙ ap (λ (pending : List Pending). not (list_any (λ q. same_lsid q.lsid c.args.lsid.now) pending)
    && is_none (pending_of pending c.args.tag.now)) (c.as_slice.ensures ∙ pending)
    ∙ sym (undisturbed_is c.args.image.now c.args.lsid.now c.args.tag.now)
