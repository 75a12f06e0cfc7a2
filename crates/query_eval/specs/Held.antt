-- What is held under ids: documents that are lent, documents of its own, and ids without a
-- document.
use Rattle.std.specs.Prelude.{ℕ, List, [], ◌∷◌, length, Option, Some, None, nat_le, if◌then◌else◌}
use Rattle.bson_core.specs.Spelling.{spelling}
use Rattle.bson_core.specs.Fields.{Document}
use Rattle.txn_types.specs.declared.id.Id.{Id}
use Rattle.txn_types.specs.declared.write.Write.{Write}
use Rattle.txn_types.specs.declared.write.Write.TheVariants.{Put, Delete}
use Rattle.txn_semantics.specs.Found.{Mark}
use Rattle.txn_semantics.specs.Rows.{Row}
use Rattle.query_eval.specs.declared.held.Held.{Held}
use Rattle.query_eval.specs.declared.held.Held.TheVariants.{Lent, Own, Nothing}

-- the document, where there is one
abbrev pub doc_in : Held → Option Document
doc_in (Lent doc) = Some doc.now
doc_in (Own doc) = Some doc
doc_in Nothing = None

-- what was written of it: nothing of a document that is lent
abbrev pub written_in : Held → Option (Option Document)
written_in (Lent doc) = None
written_in (Own doc) = Some (Some doc)
written_in Nothing = Some None

-- what the test finds, under the ids of those where it finds something
abbrev pub kept : {A B : Type 0} → (A → Option B) → List (Id × A) → List (Id × B)
kept f [] = []
kept f (row ∷ rows) = elim (f row.1) [ Some b ↦ (row.0, b) ∷ kept f rows | None ↦ kept f rows ]

-- the rows that have a document
abbrev pub rows_in : List (Id × Held) → List Row
rows_in rows = kept doc_in rows

abbrev pub all_written : List (Id × Held) → List (Id × Option Document)
all_written rows = kept written_in rows

abbrev pub write_of : List ℕ → Id × Option Document → Write
write_of ns row = elim (row.1) [ Some doc ↦ Put ns row.0 doc | None ↦ Delete ns row.0 ]

-- ids with or without a document, as shards tell them
abbrev pub mark_of : Id × Held → Mark
mark_of row = (row.0, doc_in row.1)

abbrev pub some_of : Row → Mark
some_of row = (row.0, Some row.1)

-- the document, where there is one and it fits
abbrev pub fitting_in : ℕ → Held → Option Document
fitting_in room held = elim (doc_in held)
    [ None ↦ None | Some doc ↦ if nat_le (length (spelling doc)) room then Some doc else None ]
