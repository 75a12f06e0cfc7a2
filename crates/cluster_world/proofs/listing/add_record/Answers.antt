use Rattle.std.proofs.Common.{◌≡◌, ◌+◌, ◌++◌, [], ◌∷◌, ap, sym, refl, subst, ◌∙◌, take, List, Bor}
use Rattle.std.proofs.Common.{OnOk}
use Rattle.std.proofs.lemmas.List.{take_more}
use Rattle.journal_rec.specs.declared.record.Rec.{Rec}
use Rattle.txn_model.specs.Commits.{commits}
use Rattle.cluster_world.proofs.Set.{map_set_at, map_set_there, map_set_over}
use Rattle.cluster_world.proofs.listing.add_record.Goals as goal

pub add-requires-clause-there : goal.add-requires-clause-there
add-requires-clause-there c =
    let recs = c.args.records.now in
    let cut : take (c.args.place + 1) recs
    ≡ take c.args.place recs ++ c.index-records-place.result ∷ [] =
    take_more recs c.args.place c.index-records-place.result c.requires.within
    ∙ ap (λ (r : Rec). take c.args.place recs ++ r ∷ []) (sym c.index-records-place.is) in
    map_set_there (λ (j : Bor (List Rec)). j.now) c.args.journals.now c.from.result c.args.shard _ _
    c.from.ensures c.requires.there cut

pub add-requires-clause-list : goal.add-requires-clause-list
add-requires-clause-list c = c.requires.list
    ∙ ap commits (sym (map_set_over (λ (j : Bor (List Rec)). j.now) c.args.journals.now
    c.from.result c.args.shard _ _ c.from.ensures))

pub returns-clause-journals : goal.returns-clause-journals
returns-clause-journals c = map_set_at (λ (j : Bor (List Rec)).
    j.now) c.args.journals.now c.from.result c.args.shard _ _ c.from.ensures refl

pub returns-clause-list : goal.returns-clause-list
returns-clause-list c = subst (λ (js : List (List Rec)). OnOk c.add.result
    (c.add.new.list.items ≡ commits js)) (map_set_at (λ (j : Bor (List Rec)). j.now)
    c.args.journals.now c.from.result c.args.shard _ _ c.from.ensures refl) c.add.ensures
