-- How what is done over the rows of one place follows from what is done over all.
use Rattle.std.proofs.Common.{◌≡◌, ◌<◌, ◌⊎◌, ℕ, Bool, true, false, List, [], ◌∷◌, Ok, Err}
use Rattle.std.specs.declared.cmp.Ordering.TheVariants.{Less}
use Rattle.txn_types.specs.Order.{id_cmp}
use Rattle.txn_types.specs.declared.id.Id.{Id}
use Rattle.txn_types.specs.declared.operation.OpErr.{OpErr}
use Rattle.txn_semantics.specs.Effect.{Done, Doing}
use Rattle.txn_semantics.specs.Rows.{Row, at}

abbrev pub part : (Id → Bool) → Done → Done
part here done = record { met = at here done.met; changed = at here done.changed }

-- first by index, then by id
abbrev pub IsUpTo : OpErr → OpErr → Type 0
IsUpTo e f = (e.index < f.index)
    ⊎ ((e.index ≡ f.index) × ((id_cmp e.id f.id ≡ Less) ⊎ (e.id ≡ f.id)))

abbrev pub NotBefore : OpErr → Doing → Type 0
NotBefore e (Ok done) = Unit {0}
NotBefore e (Err f) = IsUpTo e f

abbrev pub SplitsTo : (Id → Bool) → Doing → Doing → Type 0
SplitsTo here (Ok done) there = there ≡ Ok (part here done)
SplitsTo here (Err e) there = (here e.id ≡ true → there ≡ Err e) × NotBefore e there

-- all errors are of this index, and of an id above this one
abbrev pub IsBehind : ℕ → Doing → Type 0
IsBehind n (Ok done) = Unit {0}
IsBehind n (Err f) = n < f.index

pub record StepSplits {I : Type 0} (step : I → List Row → Doing) (here : Id → Bool)
    (goes : I → Bool) (item : I) (rows : List Row) : Type 0 where
  pub going : goes item ≡ true → SplitsTo here (step item rows) (step item (at here rows))
  pub staying : goes item ≡ false
      → SplitsTo here (step item rows) (Ok (record { met = []; changed = [] }))

-- each id of these rows is here, or none is
abbrev pub AreAll : (Id → Bool) → Bool → List Row → Type 0
AreAll here b [] = Unit {0}
AreAll here b (row ∷ rows) = (here row.0 ≡ b) × AreAll here b rows
