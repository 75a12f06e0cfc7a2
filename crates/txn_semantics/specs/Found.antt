-- What a find tells of rows, and how that of several shards is told as one.
use Rattle.std.specs.Prelude.{ℕ, ◌-◌, Bool, List, [], ◌∷◌, map, take, reverse, Option, Some, None}
use Rattle.std.specs.Prelude.{nat_eq, nat_le, if◌then◌else◌}
use Rattle.bson_core.specs.Fields.{Document}
use Rattle.txn_types.specs.declared.filter.Filter.{Filter}
use Rattle.txn_types.specs.declared.id.Id.{Id}
use Rattle.txn_semantics.specs.Rows.{Row, laid_over}
use Rattle.txn_semantics.specs.Effect.{DocumentRules, matching}

-- the first so many, or all where the limit is 0
abbrev pub first_of : {A : Type 0} → ℕ → List A → List A
first_of limit xs = if nat_eq limit 0 then xs else take limit xs

-- rising, or falling
abbrev pub ordered : {A : Type 0} → Bool → List A → List A
ordered down xs = if down then reverse xs else xs

-- documents, and the id of the next where not all fit
abbrev pub Found : Type 0
Found = List Document × Option Id

abbrev pub with_doc : Document → Found → Found
with_doc doc found = (doc ∷ found.0, found.1)

-- the longest front whose sizes sum to this room, and the id of the row after it
abbrev pub cut_rows : DocumentRules → ℕ → List Row → Found
cut_rows w room [] = ([], None)
cut_rows w room (row ∷ rows) = if nat_le (w.size row.1) room
    then with_doc row.1 (cut_rows w (room - w.size row.1) rows) else ([], Some row.0)

-- the first matching rows, in the order asked for
abbrev pub found : DocumentRules → ℕ → Filter → Bool → ℕ → List Row → Found
found w room wanted down limit rows =
    cut_rows w room (first_of limit (ordered down (matching w wanted rows)))

-- What a shard told is a list of marks: the ids of its documents with these, and at last the id of
-- the next alone.
abbrev pub Mark : Type 0
Mark = Id × Option Document

abbrev pub named : Option Id → List Mark
named None = []
named (Some id) = (id, None) ∷ []

abbrev pub marked : DocumentRules → List Document → List Mark → List Mark
marked w [] marks = marks
marked w (doc ∷ docs) marks = elim (w.id_in doc)
    [ None ↦ marked w docs marks | Some id ↦ (id, Some doc) ∷ marked w docs marks ]

abbrev pub marks_of : DocumentRules → Found → List Mark
marks_of w found = marked w found.0 (named found.1)

-- a row that is only named was too large for its shard, so it is too large
abbrev pub cut_marks : DocumentRules → ℕ → List Mark → Found
cut_marks w room [] = ([], None)
cut_marks w room (mark ∷ marks) = elim (mark.1) [
  | None ↦ ([], Some mark.0)
  | Some doc ↦ if nat_le (w.size doc) room then with_doc doc (cut_marks w (room - w.size doc) marks)
      else ([], Some mark.0)
]

-- each part laid over those before it
abbrev pub joined : {A : Type 0} → List (Id × A) → List (List (Id × A)) → List (Id × A)
joined rows [] = rows
joined rows (part ∷ parts) = joined (laid_over rows part) parts

-- the marks of all shards by id, in the order asked for, and of these the first that fit
abbrev pub merged : DocumentRules → ℕ → Bool → ℕ → List Found → Found
merged w room down limit parts =
    cut_marks w room (first_of limit
    (ordered down (joined [] (map (λ found. ordered down (marks_of w found)) parts))))
