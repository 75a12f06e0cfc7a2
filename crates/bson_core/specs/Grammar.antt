-- Which bytes are a document, in the grammar of BSON 1.1 (bsonspec.org): a relation of a whole byte
-- string and a document, by cases on the kinds. It goes by the number of levels, so that the limit
-- on nesting is in it.
use Rattle.std.specs.Prelude.{◌≡◌, ℕ, zero, suc, ◌+◌, ◌-◌, ◌^◌, ◌<◌, true, List, [], ◌∷◌, ◌++◌}
use Rattle.std.specs.Prelude.{length, map, FitsSigned}
use Rattle.std.specs.Int.{w32, w64, to_le_bytes, cast_unsigned}
use Rattle.std.specs.Str.{is_utf8}
use Rattle.bson_core.specs.declared.value.Value.{Value}
use Rattle.bson_core.specs.declared.value.Value.TheOpen as of
use Rattle.bson_core.specs.declared.value.Value.TheOpen.{Value-F}
use Rattle.bson_core.specs.declared.value.Value.TheViews.{out-Value}
use Rattle.bson_core.specs.Names.{IsName}
use Rattle.bson_core.specs.Fields.{Document}
use Rattle.bson_core.specs.Spelling.{text, framed, binary, bit}

-- a kind's byte and the bytes of a value of that kind
abbrev pub Relation : Type 1
Relation = ℕ → List ℕ → Type 0

-- elements one after the other: a kind, a name, a 00 and a value
abbrev pub ReadsElements : (Value → Relation) → Document → List ℕ → Type 0
ReadsElements reads [] bytes = bytes ≡ []
ReadsElements reads (field ∷ fields) bytes =
    (kind : ℕ) × (value : List ℕ) × (rest : List ℕ) × reads field.1 kind value × IsName field.0
    × (bytes ≡ (kind ∷ field.0 ++ 0 ∷ value) ++ rest) × ReadsElements reads fields rest

-- the values of a document, whatever their names
abbrev pub values_of : Document → List Value
values_of fields = map (λ field. field.1) fields

-- the elements of a list, under any names
abbrev pub ReadsItems : (Value → Relation) → List Value → List ℕ → Type 0
ReadsItems reads values bytes = (fields : Document) × (values_of fields ≡ values)
    × ReadsElements reads fields bytes

-- elements between a count of all bytes, which is an int32 that isn't negative, and a 00
abbrev pub IsFramed : (List ℕ → Type 0) → List ℕ → Type 0
IsFramed Inside bytes = (elements : List ℕ) × Inside elements × (bytes ≡ framed elements)
    × (length elements + 5 < 2 ^ 31)

-- a value that holds no others
abbrev pub reads_leaf : Value-F Value → Relation
reads_leaf (of.Text t) kind bytes = (kind ≡ 2) × (bytes ≡ text t) × (is_utf8 t ≡ true)
    × (length t + 1 < 2 ^ 31)
reads_leaf (of.Doc fields) kind bytes = ⊥
reads_leaf (of.List values) kind bytes = ⊥
reads_leaf (of.Bin b) kind bytes = (kind ≡ 5) × (bytes ≡ binary b) × (length b.bytes < 2 ^ 31)
reads_leaf (of.Oid id) kind bytes = (kind ≡ 7) × (bytes ≡ id) × (length id ≡ 12)
reads_leaf (of.Bool b) kind bytes = (kind ≡ 8) × (bytes ≡ bit b ∷ [])
reads_leaf (of.Date n) kind bytes = (kind ≡ 9) × (bytes ≡ to_le_bytes w64 (cast_unsigned w64 n))
    × FitsSigned w64 n
reads_leaf of.Null kind bytes = (kind ≡ 10) × (bytes ≡ [])
reads_leaf (of.Int n) kind bytes = (kind ≡ 16) × (bytes ≡ to_le_bytes w32 (cast_unsigned w32 n))
    × FitsSigned w32 n
reads_leaf (of.Stamp n) kind bytes = (kind ≡ 17) × (bytes ≡ to_le_bytes w64 n) × (n < 2 ^ 64)
reads_leaf (of.Long n) kind bytes = (kind ≡ 18) × (bytes ≡ to_le_bytes w64 (cast_unsigned w64 n))
    × FitsSigned w64 n

-- a value, where those inside it are read so
abbrev pub reads_step : (Value → Relation) → Value-F Value → Relation
reads_step reads (of.Doc fields) kind bytes = (kind ≡ 3)
    × IsFramed (ReadsElements reads fields) bytes
reads_step reads (of.List values) kind bytes = (kind ≡ 4) × IsFramed (ReadsItems reads values) bytes
reads_step reads leaf kind bytes = reads_leaf leaf kind bytes

-- these bytes are this value, of this kind, with at most so many levels in it
unfoldable pub ReadsAt : ℕ → Value → Relation
ReadsAt zero value = reads_leaf (out-Value value)
ReadsAt (suc levels) value = reads_step (ReadsAt levels) (out-Value value)

-- these bytes, all of them, are this document, of at most so many levels; the document itself is
-- the first
abbrev pub Reads : ℕ → Document → List ℕ → Type 0
Reads levels doc bytes = IsFramed (ReadsElements (ReadsAt (levels - 1)) doc) bytes
