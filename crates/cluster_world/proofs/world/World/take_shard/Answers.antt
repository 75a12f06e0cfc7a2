use Rattle.std.proofs.Common.{refl, ◌≡◌, ◌<◌, ℕ, Some, ap, sym, subst, ◌∙◌, map, length, slice_get}
use Rattle.std.proofs.lemmas.Option.{slice_get-get_or}
use Rattle.std.proofs.lemmas.List.{length-map}
use Rattle.txn_model.specs.Commits.{commits}
use Rattle.cluster_world.specs.World.{WorldState, records_in}
use Rattle.cluster_world.proofs.Listed.{step_cuts}
use Rattle.cluster_world.proofs.Swapping.{shard_taken}
use Rattle.cluster_world.proofs.world.World.take_shard.Goals as goal

pub add_from-requires-clause-from : goal.add_from-requires-clause-from
add_from-requires-clause-from g c =
    let items = c.self.inside.shards.items in
    let within : c.from.result < length items =
    subst (λ (n : ℕ). n < length items) (sym c.from.ensures) (subst (λ (n : ℕ). c.args.shard
    < n) (length-map items g.S.Journalled.state) (subst (λ (w : WorldState). c.args.shard
    < length w.nodes.shards) (sym c.self.view_is) c.requires.there)) in
    let got : slice_get items c.from.result ≡ Some c.index_mut.result.now =
    slice_get-get_or items c.from.result c.index_mut.result.now within
    ∙ ap (λ x. Some x) (sym c.index_mut.ensures.value) in
    (step_cuts g.S.Journalled.state items c.deref.result.now c.from.result
    c.args.shard c.take_at_shard-answer.result.records c.index_mut.result.now
    c.take_at_shard-answer.new.shard c.args.event.now c.take_at_shard-answer.result.answer
    c.from.ensures got c.deref.ensures.value c.take_at_shard-answer.ensures.takes
    c.take_at_shard-answer.ensures.records).within

pub add_from-requires-clause-list : goal.add_from-requires-clause-list
add_from-requires-clause-list g c =
    let items = c.self.inside.shards.items in
    let within : c.from.result < length items =
    subst (λ (n : ℕ). n < length items) (sym c.from.ensures) (subst (λ (n : ℕ). c.args.shard
    < n) (length-map items g.S.Journalled.state) (subst (λ (w : WorldState). c.args.shard
    < length w.nodes.shards) (sym c.self.view_is) c.requires.there)) in
    let got : slice_get items c.from.result ≡ Some c.index_mut.result.now =
    slice_get-get_or items c.from.result c.index_mut.result.now within
    ∙ ap (λ x. Some x) (sym c.index_mut.ensures.value) in
    let cuts = step_cuts g.S.Journalled.state items c.deref.result.now c.from.result
    c.args.shard c.take_at_shard-answer.result.records c.index_mut.result.now
    c.take_at_shard-answer.new.shard c.args.event.now c.take_at_shard-answer.result.answer
    c.from.ensures got c.deref.ensures.value c.take_at_shard-answer.ensures.takes
    c.take_at_shard-answer.ensures.records in
    let listed : c.self.inside.commits.items ≡ commits (map (λ n. n.records)
    (map g.S.Journalled.state items)) = subst (λ (w : WorldState). w.commits
    ≡ commits (map (λ n. n.records) w.nodes.shards)) (sym c.self.view_is) c.requires.listed in
    listed ∙ ap commits (sym cuts.cut)

pub returns-clause-took : goal.returns-clause-took
returns-clause-took g c =
    let items = c.self.inside.shards.items in
    let within : c.from.result < length items =
    subst (λ (n : ℕ). n < length items) (sym c.from.ensures) (subst (λ (n : ℕ). c.args.shard
    < n) (length-map items g.S.Journalled.state) (subst (λ (w : WorldState). c.args.shard
    < length w.nodes.shards) (sym c.self.view_is) c.requires.there)) in
    let got : slice_get items c.from.result ≡ Some c.index_mut.result.now =
    slice_get-get_or items c.from.result c.index_mut.result.now within
    ∙ ap (λ x. Some x) (sym c.index_mut.ensures.value) in
    shard_taken g.S.Journalled.state items (map g.R.Routing.state c.self.inside.routers.items)
    c.self.inside.sent.items c.self.inside.commits.items c.add_from.new.list.items
    c.self.inside.run.items c.self.inside.spent c.args.self.now _
    c.args.shard c.from.result c.take_at_shard-answer.result.faults c.index_mut.result.now
    c.take_at_shard-answer.new.shard c.args.event.now c.take_at_shard-answer.result.answer
    c.self.view_is c.from.ensures got c.take_at_shard-answer.ensures.takes
    c.take_at_shard-answer.ensures.faults
    (c.in_ok-add_from.ensures
    ∙ ap (λ xs. commits (records_in g.S.Journalled.state xs)) c.deref.ensures.value) refl
