use Rattle.std.proofs.Common.{Err, sym, ap, ◌∙◌, arith}
use Rattle.router_state.specs.State.{RouterState}
use Rattle.cluster_play.proofs.Leaving.{router_gone, boot_router}
use Rattle.cluster_play.proofs.renew.renew_router.Goals as goal

pub returns-in-Err-Next-clause-nodes : goal.returns-in-Err-Next-clause-nodes
returns-in-Err-Next-clause-nodes g c =
    let r = c.swap_router.ensures.refused (c.in-Err-Next.error, c.in-Err-Next.disk)
    (c.in-Err-Next.is ∙ ap (λ x. Err x) c.in-Err-Next.field-0-is) in (
      c.requires.there,
      router_gone c.args.world.now.nodes c.swap_router.new.self.nodes c.args.router
          c.requires.there r.3,
    )

pub returns-in-Ok-swap_router-clause-boot : goal.returns-in-Ok-swap_router-clause-boot
returns-in-Ok-swap_router-clause-boot g c =
    let there = boot_router c.swap_router.new.self.nodes c.routers.result.now c.args.router
    c.from.result c.index-routers-from.result c.routers.ensures c.from.ensures
    (omega (arith, c.requires.there, c.in-Ok-swap_router.ensures.count.routers))
    c.index-routers-from.is in
    c.boot.ensures ∙ ap (λ (r : RouterState). r.boot) c.router.ensures ∙ sym there
