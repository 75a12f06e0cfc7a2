-- The spelling of a document, in the terms of the grammar of BSON 1.1 (bsonspec.org): bytes that
-- are the document, where the values of each list have the names "0", "1" and so on. A reader takes
-- any names there.
use Rattle.std.specs.Prelude.{◌≡◌, ℕ, zero, suc, ◌+◌, ◌≤◌, List, [], ◌∷◌, length}
use Rattle.std.specs.Fmt.{decimal}
use Rattle.bson_core.specs.declared.value.Value.{Value}
use Rattle.bson_core.specs.declared.value.Value.TheOpen as of
use Rattle.bson_core.specs.declared.value.Value.TheOpen.{Value-F}
use Rattle.bson_core.specs.declared.value.Value.TheViews.{out-Value}
use Rattle.bson_core.specs.Fields.{Document}
use Rattle.bson_core.specs.Names.{IsName}
use Rattle.bson_core.specs.Nesting.{levels}
use Rattle.bson_core.specs.Spelling.{coded}
use Rattle.bson_core.specs.Written.{most}
use Rattle.bson_core.specs.Grammar.{Relation, ReadsElements, ReadsAt, IsFramed, reads_leaf}

-- values under the names of their places, from this one on
abbrev pub named_by_place : ℕ → List Value → Document
named_by_place place [] = []
named_by_place place (value ∷ values) = (decimal place, value) ∷ named_by_place (place + 1) values

-- a value, where those inside it are spelt so
abbrev pub spells_step : (Value → Relation) → Value-F Value → Relation
spells_step spells (of.Doc fields) kind bytes = (kind ≡ 3)
    × IsFramed (ReadsElements spells fields) bytes
spells_step spells (of.List values) kind bytes = (kind ≡ 4)
    × IsFramed (ReadsElements spells (named_by_place 0 values)) bytes
spells_step spells leaf kind bytes = reads_leaf leaf kind bytes

-- these bytes are the spelling of this value, of this kind, with at most so many levels in it
unfoldable pub SpellsAt : ℕ → Value → Relation
SpellsAt zero value = reads_leaf (out-Value value)
SpellsAt (suc levels) value = spells_step (SpellsAt levels) (out-Value value)

-- these bytes, all of them, are a spelling of this document, however deep it is
abbrev pub Spells : Document → List ℕ → Type 0
Spells doc bytes = (levels : ℕ) × IsFramed (ReadsElements (SpellsAt levels) doc) bytes

-- these bytes, all of them, are this document under any names in its lists, however deep it is
abbrev pub IsRead : Document → List ℕ → Type 0
IsRead doc bytes = (levels : ℕ) × IsFramed (ReadsElements (ReadsAt levels) doc) bytes

-- the bytes of a value are its spelling, where its length allows it, within as many levels as it
-- has
abbrev pub IsSpelt : Value → Type 0
IsSpelt value = (depth : ℕ) → levels value ≤ depth → length (coded value).1 ≤ most
    → SpellsAt depth value (coded value).0 (coded value).1

-- a name, and a value that is spelt so
abbrev pub IsFieldSpelt : List ℕ × Value → Type 0
IsFieldSpelt field = IsName field.0 × IsSpelt field.1
