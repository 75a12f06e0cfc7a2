-- The rows of a collection: documents by id, rising; and what writes do to them.
use Rattle.std.specs.Prelude.{ℕ, Bool, List, [], ◌∷◌, if◌then◌else◌}
use Rattle.std.specs.List.{list_any}
use Rattle.std.specs.Str.{bytes_eq}
use Rattle.bson_core.specs.Fields.{Document}
use Rattle.txn_types.specs.Order.{id_cmp, same_id}
use Rattle.txn_types.specs.declared.id.Id.{Id}
use Rattle.txn_types.specs.declared.write.Write.{Write}
use Rattle.txn_types.specs.declared.write.Write.TheVariants.{Put, Delete}
use Rattle.txn_semantics.specs.Keyed.{put, taken_out, laid, Rises, at as keyed_at}

-- an id and its document
abbrev pub Row : Type 0
Row = Id × Document

-- what stands under ids, with this under one
abbrev pub put_row : {A : Type 0} → Id → A → List (Id × A) → List (Id × A)
put_row id a rows = put id_cmp id a rows

-- what stands under ids, without that id
abbrev pub delete_row : {A : Type 0} → Id → List (Id × A) → List (Id × A)
delete_row id rows = taken_out id_cmp id rows

-- what stands under ids, with others laid over it
abbrev pub laid_over : {A : Type 0} → List (Id × A) → List (Id × A) → List (Id × A)
laid_over rows others = laid id_cmp rows others

-- the ids rise
abbrev pub IsRising : {A : Type 0} → List (Id × A) → Type 0
IsRising rows = Rises id_cmp rows

-- those of the ids that pass the test
abbrev pub at : {A : Type 0} → (Id → Bool) → List (Id × A) → List (Id × A)
at here rows = keyed_at here rows

-- a row of this id is there
abbrev pub holds_id : Id → List Row → Bool
holds_id id rows = list_any (λ row. same_id id row.0) rows

-- the rows of a namespace after a write; a write in another namespace leaves them
abbrev pub written : List ℕ → List Row → Write → List Row
written ns rows (Put there id doc) = if bytes_eq ns there then put_row id doc rows else rows
written ns rows (Delete there id) = if bytes_eq ns there then delete_row id rows else rows

-- the rows of a namespace after writes, one after the other
abbrev pub under : List ℕ → List Row → List Write → List Row
under ns rows [] = rows
under ns rows (write ∷ writes) = under ns (written ns rows write) writes
