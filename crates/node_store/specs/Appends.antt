-- The appends of a step.
use Rattle.std.specs.Prelude.{◌≡◌, ℕ, List, ◌∷◌, ◌++◌, Option}
use Rattle.journal_rec.specs.declared.record.Rec.{Rec}
use Rattle.shard_core.specs.NodeStep.{ceiling_append, record_append, joined}

-- the ceiling's, and then the record's
abbrev pub appends : Option ℕ → Option Rec → List (List Rec)
appends ceiling then = ceiling_append ceiling ++ record_append then

-- some were made, one failed and has this in hand, and the rest weren't begun
pub record IsCut (all : List (List Rec)) (old new lost : List Rec) : Type 0 where
  pub kept : List (List Rec)
  pub rest : List (List Rec)
  pub parted : all ≡ kept ++ lost ∷ rest
  pub records : new ≡ old ++ joined kept
