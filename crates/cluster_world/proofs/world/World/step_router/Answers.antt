use Rattle.std.proofs.Common.{◌≡◌, ◌<◌, ℕ, Some, ap, sym, subst, ◌∙◌, map, length, slice_get}
use Rattle.std.proofs.lemmas.Option.{slice_get-get_or}
use Rattle.std.proofs.lemmas.List.{length-map}
use Rattle.cluster_world.specs.World.{WorldState}
use Rattle.cluster_world.proofs.Swapping.{router_took}
use Rattle.cluster_world.proofs.world.World.step_router.Goals as goal

pub returns-clause-took : goal.returns-clause-took
returns-clause-took g c =
    let items = c.self.inside.routers.items in
    let within : c.from.result < length items =
    subst (λ (n : ℕ). n < length items) (sym c.from.ensures) (subst (λ (n : ℕ). c.args.router
    < n) (length-map items g.R.Routing.state) (subst (λ (w : WorldState). c.args.router
    < length w.nodes.routers) (sym c.self.view_is) c.requires.there)) in
    let got : slice_get items c.from.result ≡ Some c.index_mut.result.now =
    slice_get-get_or items c.from.result c.index_mut.result.now within
    ∙ ap (λ x. Some x) (sym c.index_mut.ensures.value) in
    router_took g.R.Routing.state (map g.S.Journalled.state c.self.inside.shards.items)
    items c.self.inside.sent.items c.self.inside.commits.items c.self.inside.run.items
    c.self.inside.spent c.args.self.now c.note.new.self
    c.args.router c.from.result c.index_mut.result.now c.take_at_router-answer.new.router
    c.args.event c.take_at_router-answer.result
    c.self.view_is c.from.ensures got c.take_at_router-answer.ensures c.requires.comes
    c.check_times.ensures.wall c.check_times.ensures.times c.in_ok-note.ensures.noted
