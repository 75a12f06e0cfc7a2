-- What a start finds after a step at whose end, or in which, the machine stopped.
use Rattle.std.specs.Prelude.{◌⊎◌, List, [], ◌∷◌}
use Rattle.std.proofs.Common.{inl, inr}
use Rattle.txn_types.specs.declared.event.NodeAnswer.{NodeAnswer}
use Rattle.txn_semantics.specs.declared.commits.Entry.{Entry}
use Rattle.journal_rec.specs.declared.record.Rec.{Rec}
use Rattle.part_laws.specs.Sound.{Opens, Served}
use Rattle.part_laws.specs.Parts.{IsServing}
use Rattle.part_laws.specs.Start.{prepared_ones}
use Rattle.shard_core.specs.State.{ShardState}
use Rattle.shard_core.specs.Core.{CoreStep}
use Rattle.shard_core.specs.NodeStep.{NodeState, Appended, Failed}
use Rattle.durable_laws.specs.Backed.{IsLeft}

-- what holds of a shard's part: its open transactions, the commits and what was served
pub record Serving (s : ShardState) : Type 0 where
  pub opens : Opens
  pub entries : List Entry
  pub served : List Served
  pub holds : IsServing s.part opens s.clock.last entries served

-- a shard that starts again has the same commits and what was served, and the prepared transactions
-- alone
abbrev pub ServesOn : (s : ShardState) → Serving s → ShardState → Type 0
ServesOn s h new = IsServing new.part (prepared_ones h.opens) new.clock.last h.entries h.served

-- the last append of a step brings what is after the step
abbrev pub AtLast : List (List Rec) → Type 0 → Type 0 → Type 0
AtLast [] before behind = behind
AtLast (next ∷ more) before behind = before

-- as after the step where all its appends were made, or where the last failed and is found whole;
-- and else as before it
abbrev pub ServesAgain : (old : NodeState) (o : CoreStep) (a : NodeAnswer) (new : NodeState)
    (recs : List Rec) → Appended old o a new ⊎ Failed old o a new → IsLeft new recs
    → Serving old.core → Serving o.core → ShardState → Type 0
ServesAgain old o a new recs (inl done) left before behind m = ServesOn o.core behind m
ServesAgain old o a new recs (inr failed) (inl is) before behind m = ServesOn old.core before m
ServesAgain old o a new recs (inr failed) (inr is) before behind m =
    AtLast failed.rest (ServesOn old.core before m) (ServesOn o.core behind m)
