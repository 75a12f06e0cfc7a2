use Rattle.std.proofs.Common.{◌+◌, ap, ◌∙◌, map, take, List, Bor}
use Rattle.std.specs.Prelude.{slice_set}
use Rattle.journal_rec.specs.declared.record.Rec.{Rec}
use Rattle.txn_model.specs.Commits.{commits}
use Rattle.cluster_world.proofs.Set.{set_twice}
use Rattle.cluster_world.proofs.listing.add_records.Goals as goal

pub loop-place-preserved : goal.loop-place-preserved
loop-place-preserved c = record {
  others = λ (recs : List Rec). ap (λ (js : List (List Rec)). slice_set js c.args.shard
      recs) c.add_record.ensures.journals ∙ set_twice (map (λ (j : Bor (List Rec)). j.now)
      c.loop-place.journals) c.args.shard (take (c.loop-place.place + 1) c.args.records.now) recs
      ∙ c.loop-place.invariant.others recs;
  list = c.in_ok-add_record.ensures.list ∙ ap commits
      (c.loop-place.invariant.others (take (c.loop-place.place + 1) c.args.records.now));
}
