use Rattle.std.proofs.Common.{◌≡◌, None, ap, sym, ◌∙◌}
use Rattle.shard_core.specs.State.{ShardState}
use Rattle.shard_core.proofs.Handing.{running_answers}
use Rattle.shard_core.proofs.shard.Shard.step.Goals as goal

pub returns-in-None-clause-stopped : goal.returns-in-None-clause-stopped
returns-in-None-clause-stopped c =
    let runs : c.args.self.now.stopped ≡ None =
    ap (λ (s : ShardState). s.stopped) (sym c.self.view_is) ∙ c.in-None.is in (
      λ h. absurd (c.run.ensures.running h),
      λ h. absurd (running_answers c.args.self.now c.args.event.now runs h),
    )
