-- The bytes that BSON 1.1 (bsonspec.org) gives to a document. All numbers are little-endian.
use Rattle.std.specs.Prelude.{ℕ, ◌+◌, List, [], ◌∷◌, ◌++◌, length, Bool, true, false}
use Rattle.std.specs.List.{flat_map}
use Rattle.std.specs.Int.{w32, w64, to_le_bytes, cast_unsigned}
use Rattle.std.specs.Fmt.{decimal}
use Rattle.bson_core.specs.declared.value.Bin.{Bin}
use Rattle.bson_core.specs.declared.value.Value.{Value}
use Rattle.bson_core.specs.declared.value.Value.TheOpen as of
use Rattle.bson_core.specs.declared.value.Value.TheOpen.{Value-F}
use Rattle.bson_core.specs.declared.value.Value.TheFolds.{fold-Value}
use Rattle.bson_core.specs.Fields.{Document}

-- the byte of a value's kind, and the bytes of the value
abbrev pub Coded : Type 0
Coded = ℕ × List ℕ

-- an int32 with the number of bytes and the 00 after them, the bytes, and a 00
unfoldable pub text : List ℕ → List ℕ
text bytes = to_le_bytes w32 (length bytes + 1) ++ bytes ++ 0 ∷ []

-- an int32 with the number of all bytes, the elements, and a 00
unfoldable pub framed : List ℕ → List ℕ
framed elements = to_le_bytes w32 (length elements + 5) ++ elements ++ 0 ∷ []

-- an int32 with the number of bytes, the subtype, and the bytes
unfoldable pub binary : Bin → List ℕ
binary b = to_le_bytes w32 (length b.bytes) ++ b.subtype ∷ b.bytes

-- the byte of the kind, the name, a 00, and the value
abbrev pub element : List ℕ × Coded → List ℕ
element field = field.1.0 ∷ field.0 ++ 0 ∷ field.1.1

-- the elements of a list, each named by its place
abbrev pub numbered : ℕ → List Coded → List ℕ
numbered place [] = []
numbered place (value ∷ values) = element (decimal place, value) ++ numbered (place + 1) values

abbrev pub bit : Bool → ℕ
bit true = 1
bit false = 0

-- by cases on the kinds, over the bytes of what a document or a list holds
abbrev pub coded_step : Value-F Coded → Coded
coded_step (of.Text t) = (2, text t)
coded_step (of.Doc fields) = (3, framed (flat_map element fields))
coded_step (of.List values) = (4, framed (numbered 0 values))
coded_step (of.Bin b) = (5, binary b)
coded_step (of.Oid bytes) = (7, bytes)
coded_step (of.Bool b) = (8, bit b ∷ [])
coded_step (of.Date n) = (9, to_le_bytes w64 (cast_unsigned w64 n))
coded_step of.Null = (10, [])
coded_step (of.Int n) = (16, to_le_bytes w32 (cast_unsigned w32 n))
coded_step (of.Stamp n) = (17, to_le_bytes w64 n)
coded_step (of.Long n) = (18, to_le_bytes w64 (cast_unsigned w64 n))

abbrev pub coded : Value → Coded
coded = fold-Value Coded coded_step

-- the elements of a document
abbrev pub elements : Document → List ℕ
elements [] = []
elements (field ∷ fields) = element (field.0, coded field.1) ++ elements fields

-- the one spelling of a document
abbrev pub spelling : Document → List ℕ
spelling doc = framed (elements doc)
