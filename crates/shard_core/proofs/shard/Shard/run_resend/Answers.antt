use Rattle.txn_types.specs.declared.event.Happening.TheVariants as what
use Rattle.shard_core.proofs.Handing.{resend_steps, short_steps}
use Rattle.shard_core.proofs.shard.Shard.run_resend.Goals as goal
use Rattle.shard_core.proofs.shard.Shard.run_resend.Goals.{in-Ok, in-Err-Memory}

pub returns-clause-step : goal.returns-clause-step
returns-clause-step c = elim c.match-resend.branch [
  | in-Ok w ↦
      rw (w.out-is, w.result-is)
      (resend_steps c.args.self.now c.args.wall c.resend.new.self w.in-Ok.given w.hand_out.new.out
      w.hand_out.result c.requires w.in-Ok.ensures.ok w.hand_out.ensures.out
      w.hand_out.ensures.step)
  | in-Err-Memory w ↦
      rw (w.out-is, w.result-is)
      (short_steps c.args.self.now (record { wall = c.args.wall; what = what.Resend })
      c.resend.new.self c.args.out.now c.requires w.in-Err-Memory.ensures.err)
]
