use Rattle.txn_types.specs.declared.event.Happening.TheVariants as what
use Rattle.shard_core.proofs.Handing.{delivered_steps, short_steps}
use Rattle.shard_core.proofs.shard.Shard.run_delivery.Goals as goal
use Rattle.shard_core.proofs.shard.Shard.run_delivery.Goals.{in-Ok, in-Err-Memory}

pub returns-clause-step : goal.returns-clause-step
returns-clause-step c = elim c.match-deliver.branch [
  | in-Ok w ↦
      rw (w.out-is, w.result-is)
      (delivered_steps c.args.self.now c.args.wall c.args.envelope.now c.ceiling_at-ceiling.result
      c.deliver.new.self w.in-Ok.given w.hand_out.new.out w.hand_out.result c.requires
      c.ceiling_at-ceiling.ensures
      w.in-Ok.ensures.ok w.hand_out.ensures.out w.hand_out.ensures.step)
  | in-Err-Memory w ↦
      rw (w.out-is, w.result-is)
      (short_steps c.args.self.now
      (record { wall = c.args.wall; what = what.Deliver c.args.envelope.now })
      c.deliver.new.self c.args.out.now c.requires w.in-Err-Memory.ensures.err)
]
