use Rattle.std.proofs.Common.{◌≡◌, ◌≤◌, Option, Some, OnOk, unwrap_or, [], ap, sym, subst, ◌∙◌, map}
use Rattle.std.proofs.Common.{take, length, List, Bor, slice_get, slice_set}
use Rattle.journal_rec.specs.declared.record.Rec.{Rec}
use Rattle.txn_model.specs.Commits.{commits}
use Rattle.cluster_world.specs.World.{records_in}
use Rattle.cluster_world.proofs.Set.{set_same}
use Rattle.cluster_world.proofs.Listed.{records_at}
use Rattle.cluster_world.proofs.listing.add_from.Goals as goal

pub add_records-requires-clause-within : goal.add_records-requires-clause-within
add_records-requires-clause-within g c =
    let recs = c.records-records.result.now in
    let got : slice_get (records_in g.S.Journalled.state c.args.shards.now) c.args.shard
    ≡ Some recs = records_at g.S.Journalled.state c.args.shards.now c.from.result c.args.shard
    c.index-shards-from.result recs c.from.ensures c.requires.there c.index-shards-from.is
    c.records-records.ensures in
    subst (λ (o : Option (List Rec)). c.args.from ≤ length (unwrap_or o [])) got c.requires.from

pub add_records-requires-clause-list : goal.add_records-requires-clause-list
add_records-requires-clause-list g c =
    let recs = c.records-records.result.now in
    let all = records_in g.S.Journalled.state c.args.shards.now in
    let got : slice_get all c.args.shard ≡ Some recs = records_at g.S.Journalled.state
    c.args.shards.now c.from.result c.args.shard c.index-shards-from.result recs c.from.ensures
    c.requires.there c.index-shards-from.is c.records-records.ensures in
    let shown : map (λ (j : Bor (List Rec)). j.now) c.deref_mut.result.now ≡ all =
    ap (map (λ (j : Bor (List Rec)). j.now)) c.deref_mut.ensures.value
    ∙ c.in_ok-journals.ensures in
    c.requires.list ∙ ap (λ (o : Option (List Rec)). commits (slice_set all c.args.shard
    (take c.args.from (unwrap_or o [])))) got ∙ ap (λ (js : List (List Rec)).
    commits (slice_set js c.args.shard (take c.args.from recs))) (sym shown)

pub returns : goal.returns
returns g c =
    let recs = c.records-records.result.now in
    let all = records_in g.S.Journalled.state c.args.shards.now in
    let got : slice_get all c.args.shard ≡ Some recs = records_at g.S.Journalled.state
    c.args.shards.now c.from.result c.args.shard c.index-shards-from.result recs c.from.ensures
    c.requires.there c.index-shards-from.is c.records-records.ensures in
    let shown : map (λ (j : Bor (List Rec)). j.now) c.deref_mut.result.now ≡ all =
    ap (map (λ (j : Bor (List Rec)). j.now)) c.deref_mut.ensures.value
    ∙ c.in_ok-journals.ensures in
    subst (λ (js : List (List Rec)). OnOk c.add_records.result (c.add_records.new.list.items
    ≡ commits js)) (ap (λ (js : List (List Rec)). slice_set js c.args.shard recs) shown
    ∙ set_same all c.args.shard recs got) c.add_records.ensures
