use Rattle.std.proofs.Common.{◌≡◌, ℕ, Some, ap, sym, subst, ◌∙◌, map, slice_get, slice_set, remove}
use Rattle.cluster_world.specs.World.{WorldState}
use Rattle.cluster_world.proofs.Swapping.{on_ok, next_same, unless_next, as_many_routers}
use Rattle.cluster_world.proofs.Swapping.{router_there, router_set, router_gone, router_starts}
use Rattle.cluster_world.proofs.world.World.swap_router.Goals as goal

pub returns-in-Ok-clause-swapped : goal.returns-in-Ok-clause-swapped
returns-in-Ok-clause-swapped g c =
    let h = c.in-Ok.ensures.ok in
    let there = router_there g.R.Routing.state (map g.S.Journalled.state c.self.inside.shards.items)
    c.self.inside.routers.items c.self.inside.sent.items c.self.inside.commits.items
    c.self.inside.run.items c.self.inside.spent c.args.self.now c.args.router h.0
    c.self.view_is (subst (λ (n : ℕ). slice_get c.self.inside.routers.items n ≡ Some h.0)
    c.from.ensures h.2) in
    let set = router_set g.R.Routing.state (map g.S.Journalled.state
    c.self.inside.shards.items) c.self.inside.routers.items c.swap_in.new.list.items
    c.self.inside.sent.items c.self.inside.commits.items c.self.inside.run.items
    c.self.inside.spent c.args.self.now c.args.router h.1 c.self.view_is (h.4
    ∙ ap (λ (n : ℕ). slice_set c.self.inside.routers.items n h.1) c.from.ensures) in
    on_ok c.swapped.result (λ is. (h.0, h.1, there, h.3, ap (λ (w : WorldState). w.nodes) is ∙ set))
    c.swapped.ensures.ok

pub returns-in-Ok-clause-count : goal.returns-in-Ok-clause-count
returns-in-Ok-clause-count g c =
    let h = c.in-Ok.ensures.ok in
    let set = router_set g.R.Routing.state (map g.S.Journalled.state
    c.self.inside.shards.items) c.self.inside.routers.items c.swap_in.new.list.items
    c.self.inside.sent.items c.self.inside.commits.items c.self.inside.run.items
    c.self.inside.spent c.args.self.now c.args.router h.1 c.self.view_is (h.4
    ∙ ap (λ (n : ℕ). slice_set c.self.inside.routers.items n h.1) c.from.ensures) in
    unless_next c.args.self.now.nodes c.swapped.result c.swapped.new.self.nodes
    (as_many_routers c.args.self.now.nodes c.args.router (g.R.Routing.state h.1)
    c.swapped.new.self.nodes (c.swapped.ensures.nodes ∙ set))

pub returns-in-Ok-clause-happens : goal.returns-in-Ok-clause-happens
returns-in-Ok-clause-happens g c = λ renews.
    let h = c.in-Ok.ensures.ok in
    let there = router_there g.R.Routing.state (map g.S.Journalled.state c.self.inside.shards.items)
    c.self.inside.routers.items c.self.inside.sent.items c.self.inside.commits.items
    c.self.inside.run.items c.self.inside.spent c.args.self.now c.args.router h.0
    c.self.view_is (subst (λ (n : ℕ). slice_get c.self.inside.routers.items n ≡ Some h.0)
    c.from.ensures h.2) in
    let set = router_set g.R.Routing.state (map g.S.Journalled.state
    c.self.inside.shards.items) c.self.inside.routers.items c.swap_in.new.list.items
    c.self.inside.sent.items c.self.inside.commits.items c.self.inside.run.items
    c.self.inside.spent c.args.self.now c.args.router h.1 c.self.view_is (h.4
    ∙ ap (λ (n : ℕ). slice_set c.self.inside.routers.items n h.1) c.from.ensures) in
    on_ok c.swapped.result (λ is. router_starts c.args.self.now.nodes c.args.router
    (g.R.Routing.state h.0) (g.R.Routing.state h.1) c.swapped.new.self.nodes there
    (renews h.0 h.1 there h.3) (ap (λ (w : WorldState). w.nodes) is ∙ set)) c.swapped.ensures.ok

pub returns-in-Err-clause-refused : goal.returns-in-Err-clause-refused
returns-in-Err-clause-refused g c = λ e is.
    let h = c.in-Err.ensures.err in
    let there = router_there g.R.Routing.state (map g.S.Journalled.state c.self.inside.shards.items)
    c.self.inside.routers.items c.self.inside.sent.items c.self.inside.commits.items
    c.self.inside.run.items c.self.inside.spent c.args.self.now c.args.router h.0
    c.self.view_is (subst (λ (n : ℕ). slice_get c.self.inside.routers.items n ≡ Some h.0)
    c.from.ensures h.1) in
    let gone = router_gone g.R.Routing.state (map g.S.Journalled.state
    c.self.inside.shards.items) c.self.inside.routers.items c.swap_in.new.list.items
    c.self.inside.sent.items c.self.inside.commits.items c.self.inside.run.items
    c.self.inside.spent c.args.self.now c.args.router c.self.view_is (h.3
    ∙ ap (λ (n : ℕ). remove c.self.inside.routers.items n) c.from.ensures) in
    rw (sym (next_same c.in-Err.error e is)) (h.0, there, h.2, gone)
