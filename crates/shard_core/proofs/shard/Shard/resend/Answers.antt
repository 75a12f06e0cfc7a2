use Rattle.std.proofs.Common.{ap, ◌∙◌}
use Rattle.txn_types.specs.Letters.{all_sent_by}
use Rattle.txn_types.specs.declared.node.NodeId.TheVariants.{Shard}
use Rattle.coordinator.specs.TwoPhase.{resends}
use Rattle.shard_core.specs.State.{ShardState}
use Rattle.shard_core.proofs.Coming.{resent}
use Rattle.shard_core.proofs.shard.Shard.resend.Goals as goal

pub returns-in-Ok-clause-ok : goal.returns-in-Ok-clause-ok
returns-in-Ok-clause-ok c =
    resent c.args.self.now c.args.wall c.enter.new.self c.in-Ok.out c.sends.result c.enter.ensures
    (c.in-Ok.ensures ∙ ap (λ (s : ShardState). all_sent_by (Shard c.args.self.now.part.shard)
    s.clock.last (resends c.args.self.now.part.shard c.args.self.now.coord)) c.self.view_is)
    c.sends.ensures
