use Rattle.std.proofs.Common.{◌≡◌, List}
use Rattle.txn_types.specs.Order.{lsid_cmp}
use Rattle.txn_types.specs.declared.node.Lsid.{Lsid}
use Rattle.txn_types.proofs.Orders.{lsid_total, lsid_exact}
use Rattle.txn_semantics.specs.Keyed.{Rises}
use Rattle.version_store.proofs.Keyed.{put_on}
use Rattle.participant.specs.declared.said.Open.{Open}
use Rattle.participant.proofs.lives.Lives.copy.Goals as goal

pub loop-key-preserved : goal.loop-key-preserved
loop-key-preserved c =
    put_on lsid_cmp lsid_total lsid_exact (λ (rows : List (Lsid × Open)). Rises lsid_cmp rows
    × (rows ≡ c.args.self.now)) c.loop-key.copy c.put.new.self c.loop-key.key-iterator
    c.next.new.self c.in-Some.key.now c.lsid.result.now
    c.in-Some.live.now c.in_ok-copy.field-0 c.loop-key.invariant.0 c.in-Some.ensures.steps
    c.lsid.ensures c.in_ok-copy.ensures c.in_ok-put.ensures.ok c.loop-key.invariant
