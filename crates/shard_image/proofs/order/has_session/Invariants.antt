use Rattle.std.proofs.Common.{◌≡◌, drop}
use Rattle.std.specs.List.{list_any}
use Rattle.txn_types.specs.Order.{same_lsid}
use Rattle.shard_image.proofs.order.has_session.Given as goal

abbrev pub invariant-loop-q : goal.invariant-loop-q
invariant-loop-q l = list_any (λ q. same_lsid q.lsid l.lsid) (drop l.q-index l.pending)
    ≡ list_any (λ q. same_lsid q.lsid l.lsid) l.pending
