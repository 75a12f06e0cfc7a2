use Rattle.std.proofs.Common.{◌≡◌, List, take, map}
use Rattle.std.specs.Prelude.{slice_set}
use Rattle.journal_rec.specs.declared.record.Rec.{Rec}
use Rattle.txn_model.specs.Commits.{commits}
use Rattle.cluster_world.proofs.listing.add_records.Given as goal

abbrev pub invariant-loop-place : goal.invariant-loop-place
invariant-loop-place l = record {
  others : (recs : List Rec) → slice_set (map (λ j. j.now) l.journals) l.shard recs
      ≡ slice_set (map (λ j. j.now) l.initial.journals) l.shard recs;
  list : l.list.items
      ≡ commits (slice_set (map (λ j. j.now) l.initial.journals) l.shard (take l.place l.records));
}
