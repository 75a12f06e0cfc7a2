use Rattle.std.proofs.Common.{◌≡◌, ℕ, Some, ap, sym, subst, ◌∙◌, map, slice_get, slice_set, remove}
use Rattle.cluster_world.specs.World.{WorldState}
use Rattle.cluster_world.proofs.Swapping.{on_ok, next_same, unless_next, as_many_shards}
use Rattle.cluster_world.proofs.Swapping.{shard_there, shard_set, shard_gone, shard_starts}
use Rattle.cluster_world.proofs.world.World.swap_shard.Goals as goal

pub returns-in-Ok-clause-swapped : goal.returns-in-Ok-clause-swapped
returns-in-Ok-clause-swapped g c =
    let h = c.in-Ok.ensures.ok in
    let there = shard_there g.S.Journalled.state c.self.inside.shards.items (map g.R.Routing.state
    c.self.inside.routers.items) c.self.inside.sent.items c.self.inside.commits.items
    c.self.inside.run.items c.self.inside.spent c.args.self.now c.args.shard h.0 c.self.view_is
    (subst (λ (n : ℕ). slice_get c.self.inside.shards.items n ≡ Some h.0) c.from.ensures h.2) in
    let set = shard_set g.S.Journalled.state c.self.inside.shards.items
    c.swap_in.new.list.items (map g.R.Routing.state c.self.inside.routers.items)
    c.self.inside.sent.items c.self.inside.commits.items c.self.inside.run.items
    c.self.inside.spent c.args.self.now c.args.shard h.1 c.self.view_is (h.4
    ∙ ap (λ (n : ℕ). slice_set c.self.inside.shards.items n h.1) c.from.ensures) in
    on_ok c.swapped_shard.result
    (λ is. (h.0, h.1, there, h.3, ap (λ (w : WorldState). w.nodes) is ∙ set))
    c.swapped_shard.ensures.ok

pub returns-in-Ok-clause-count : goal.returns-in-Ok-clause-count
returns-in-Ok-clause-count g c =
    let h = c.in-Ok.ensures.ok in
    let set = shard_set g.S.Journalled.state c.self.inside.shards.items
    c.swap_in.new.list.items (map g.R.Routing.state c.self.inside.routers.items)
    c.self.inside.sent.items c.self.inside.commits.items c.self.inside.run.items
    c.self.inside.spent c.args.self.now c.args.shard h.1 c.self.view_is (h.4
    ∙ ap (λ (n : ℕ). slice_set c.self.inside.shards.items n h.1) c.from.ensures) in
    unless_next c.args.self.now.nodes c.swapped_shard.result c.swapped_shard.new.self.nodes
    (as_many_shards c.args.self.now.nodes c.args.shard (g.S.Journalled.state h.1)
    c.swapped_shard.new.self.nodes (c.swapped_shard.ensures.nodes ∙ set))

pub returns-in-Ok-clause-happens : goal.returns-in-Ok-clause-happens
returns-in-Ok-clause-happens g c = λ renews.
    let h = c.in-Ok.ensures.ok in
    let there = shard_there g.S.Journalled.state c.self.inside.shards.items (map g.R.Routing.state
    c.self.inside.routers.items) c.self.inside.sent.items c.self.inside.commits.items
    c.self.inside.run.items c.self.inside.spent c.args.self.now c.args.shard h.0 c.self.view_is
    (subst (λ (n : ℕ). slice_get c.self.inside.shards.items n ≡ Some h.0) c.from.ensures h.2) in
    let set = shard_set g.S.Journalled.state c.self.inside.shards.items
    c.swap_in.new.list.items (map g.R.Routing.state c.self.inside.routers.items)
    c.self.inside.sent.items c.self.inside.commits.items c.self.inside.run.items
    c.self.inside.spent c.args.self.now c.args.shard h.1 c.self.view_is (h.4
    ∙ ap (λ (n : ℕ). slice_set c.self.inside.shards.items n h.1) c.from.ensures) in
    on_ok c.swapped_shard.result (λ is. shard_starts c.args.self.now.nodes c.args.shard
    (g.S.Journalled.state h.0) (g.S.Journalled.state h.1) c.swapped_shard.new.self.nodes
    there (renews h.0 h.1 there h.3) (ap (λ (w : WorldState). w.nodes) is ∙ set))
    c.swapped_shard.ensures.ok

pub returns-in-Err-clause-refused : goal.returns-in-Err-clause-refused
returns-in-Err-clause-refused g c = λ e is.
    let h = c.in-Err.ensures.err in
    let there = shard_there g.S.Journalled.state c.self.inside.shards.items (map g.R.Routing.state
    c.self.inside.routers.items) c.self.inside.sent.items c.self.inside.commits.items
    c.self.inside.run.items c.self.inside.spent c.args.self.now c.args.shard h.0 c.self.view_is
    (subst (λ (n : ℕ). slice_get c.self.inside.shards.items n ≡ Some h.0) c.from.ensures h.1) in
    let gone = shard_gone g.S.Journalled.state c.self.inside.shards.items
    c.swap_in.new.list.items (map g.R.Routing.state c.self.inside.routers.items)
    c.self.inside.sent.items c.self.inside.commits.items c.self.inside.run.items
    c.self.inside.spent c.args.self.now c.args.shard c.self.view_is (h.3
    ∙ ap (λ (n : ℕ). remove c.self.inside.shards.items n) c.from.ensures) in
    rw (sym (next_same c.in-Err.error e is)) (h.0, there, h.2, gone)
