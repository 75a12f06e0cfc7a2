-- The places of an operation's items in their list.
use Rattle.std.specs.Prelude.{◌≡◌, ◌≤◌, ℕ, zero, suc, ◌+◌, List, [], ◌∷◌, map}
use Rattle.txn_types.specs.Limits.{most_batch}
use Rattle.txn_types.specs.declared.operation.Op.{Op}
use Rattle.txn_types.specs.declared.operation.Op.TheVariants as op

abbrev pub places_of : Op → List ℕ
places_of (op.Insert ns docs) = map (λ item. item.index) docs
places_of (op.Find ns filter down limit) = []
places_of (op.Update ns items) = map (λ item. item.index) items
places_of (op.Delete ns items) = map (λ item. item.index) items

-- so many numbers, each one more than the one before it, from this one on
abbrev pub counted : ℕ → ℕ → List ℕ
counted first zero = []
counted first (suc n) = first ∷ counted (first + 1) n

-- its items stand at 0, 1, 2 and so on, and they are at most 100,000, the manual's
-- maxWriteBatchSize
pub record HasPlaces (o : Op) : Type 0 where
  pub count : ℕ
  pub most : count ≤ most_batch
  pub places : places_of o ≡ counted 0 count
