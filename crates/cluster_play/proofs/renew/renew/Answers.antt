use Rattle.std.proofs.Common.{ℕ, Some, refl, ap}
use Rattle.txn_model.specs.declared.ran.Ran.TheVariants.{Swapped}
use Rattle.play_text.specs.Text.{boot_line}
use Rattle.play_steps.specs.Taking.{where_logs}
use Rattle.cluster_play.proofs.renew.renew.Goals as goal

pub returns-in-Ok-tell_boot-clause-done : goal.returns-in-Ok-tell_boot-clause-done
returns-in-Ok-tell_boot-clause-done g c =
    let p = c.args.player.now in (
      Some (Swapped c.args.node),
      where_logs p.logs (boot_line c.args.node c.in-Ok.boot),
      c.in-Ok-tell_boot.ensures,
      (
        refl,
        c.in-Ok.ensures.happened,
        ap (λ (k : ℕ). where_logs p.logs (boot_line c.args.node k)) c.in-Ok.ensures.boot,
        refl,
      ),
    )
