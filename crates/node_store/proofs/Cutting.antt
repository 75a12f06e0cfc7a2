-- Appends that were cut off.
use Rattle.std.proofs.Common.{◌≡◌, ℕ, List, [], ◌∷◌, Option, Some, Result, Ok, Err, sym, ap, ◌∙◌}
use Rattle.std.proofs.Common.{append-nil}
use Rattle.std.specs.Prelude.{OnErr}
use Rattle.journal_rec.specs.declared.record.Rec.{Rec}
use Rattle.journal_rec.specs.declared.record.Rec.TheVariants as rec
use Rattle.shard_core.specs.NodeStep.{record_append}
use Rattle.node_store.specs.Appends.{IsCut, appends}

pub on_err : {T E : Type 0} (r : Result T E) (P : Type 0) → P → OnErr r P
on_err (Ok x) P h = tt
on_err (Err e) P h = h

-- at the ceiling
pub cut_first : (ceiling : Option ℕ) (bound : ℕ) (then : Option Rec) (old new lost : List Rec)
    → ceiling ≡ Some bound → new ≡ old → lost ≡ rec.Ceiling bound ∷ []
    → IsCut (appends ceiling then) old new lost
cut_first ceiling bound then old new lost is same in_hand = record {
  kept = [];
  rest = record_append then;
  parted = ap (λ (o : Option ℕ). appends o then) is
      ∙ ap (λ (l : List Rec). l ∷ record_append then) (sym in_hand);
  records = same ∙ sym (append-nil old);
}
