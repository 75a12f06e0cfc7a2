-- The fields that an update has no operator for.
use Rattle.std.specs.Prelude.{◌≡◌, ℕ, Bool, false, List, [], ◌∷◌, filter}
use Rattle.bson_core.specs.Fields.{Document}
use Rattle.txn_types.specs.declared.update.UpdateOp.{UpdateOp}

-- none of the operators has a name that passes the test
abbrev pub NoneNamed : (List ℕ → Bool) → List UpdateOp → Type 0
NoneNamed kept [] = Unit {0}
NoneNamed kept (op ∷ ops) = (kept op.name ≡ false) × NoneNamed kept ops

-- the fields whose names pass the test, in their order
abbrev pub fields_of : (List ℕ → Bool) → Document → Document
fields_of kept doc = filter (λ field. kept field.0) doc
