-- The first fault of a document, in the grammar's terms: after elements that are well formed
-- stands one that isn't, or one whose value holds such a fault; or the last byte is wrong after
-- them all. What follows doesn't matter.
use Rattle.std.specs.Prelude.{◌≡◌, ◌≢◌, ◌⊎◌, ◌<◌, ◌≤◌, min, [], ℕ, zero, suc, ◌+◌, ◌-◌, ◌^◌, true}
use Rattle.std.specs.Prelude.{false, List, ◌∷◌, ◌++◌, length, None, is_some}
use Rattle.std.specs.Int.{w32, to_le_bytes}
use Rattle.std.specs.Str.{is_utf8}
use Rattle.bson_core.specs.declared.error.BsonErr.{BsonErr}
use Rattle.bson_core.specs.declared.error.BsonErr.TheVariants as fault
use Rattle.bson_core.specs.Fields.{Document}
use Rattle.bson_core.specs.Grammar.{ReadsElements, ReadsAt}
use Rattle.bson_core.specs.Kinds.{kind_of}
use Rattle.bson_core.specs.Names.{has_no_zero, IsName}
use Rattle.bson_core.specs.Written.{most}
use Rattle.codec_laws.specs.Faults.{number_from}

-- a type byte, a name, and what follows it
abbrev pub headed : ℕ → List ℕ → List ℕ → List ℕ
headed kind name value = kind ∷ name ++ 0 ∷ value

-- a byte that is no kind's, at its place
abbrev pub IsNoKind : ℕ → List ℕ → BsonErr → Type 0
IsNoKind place bytes (fault.Kind at byte) = (rest : List ℕ) × (bytes ≡ byte ∷ rest)
    × (kind_of byte ≡ None) × (byte ≢ 0) × (at ≡ place)
IsNoKind place bytes other = ⊥

-- a 00 before the document's last byte; its place is that of the document's count
abbrev pub IsEarlyEnd : ℕ → List ℕ → BsonErr → Type 0
IsEarlyEnd start bytes (fault.Length at) = (rest : List ℕ) × (bytes ≡ 0 ∷ rest) × (at ≡ start)
IsEarlyEnd start bytes other = ⊥

-- a name without an end, or one that is no UTF-8
abbrev pub IsNoName : ℕ → List ℕ → BsonErr → Type 0
IsNoName place bytes fault.Short = (kind : ℕ) × (rest : List ℕ) × (bytes ≡ kind ∷ rest)
    × (is_some (kind_of kind) ≡ true) × (has_no_zero rest ≡ true)
IsNoName place bytes (fault.Text at) =
    (kind : ℕ) × (name : List ℕ) × (rest : List ℕ) × (bytes ≡ headed kind name rest)
    × (is_some (kind_of kind) ≡ true) × (has_no_zero name ≡ true) × (is_utf8 name ≡ false)
    × (at ≡ place + 1)
IsNoName place bytes other = ⊥

-- how many bytes the values of a kind have, where they all have as many: object ids, truth values,
-- moments, int32, timestamps, int64
pub data HasWidth : ℕ → ℕ → Type 0 where
  oid : HasWidth 7 12
  truth : HasWidth 8 1
  moment : HasWidth 9 8
  int : HasWidth 16 4
  stamp : HasWidth 17 8
  long : HasWidth 18 8

-- a text's count and a binary's are wrong for so many bytes after them
pub data IsWrongCount : ℕ → ℕ → ℕ → Type 0 where
  text_none : {left : ℕ} → IsWrongCount 2 0 left
  text_past : {n left : ℕ} → left < n → IsWrongCount 2 n left
  binary_past : {n left : ℕ} → left < n + 1 → IsWrongCount 5 n left

-- a text or a binary
abbrev pub IsCounted : ℕ → Type 0
IsCounted kind = (kind ≡ 2) ⊎ (kind ≡ 5)

-- these bytes, to the end of their holder, begin with no value of the kind, which is neither a
-- document nor a list
abbrev pub IsNoValue : ℕ → ℕ → List ℕ → BsonErr → Type 0
IsNoValue kind place bytes fault.Short = (width : ℕ) × HasWidth kind width × (length bytes < width)
IsNoValue kind place bytes (fault.Length at) =
    (at ≡ place) × ((IsCounted kind × (length bytes < 4)) ⊎ ((n : ℕ) × (rest : List ℕ)
    × (bytes ≡ to_le_bytes w32 n ++ rest) × (n < 2 ^ 32) × IsWrongCount kind n (length rest)))
IsNoValue kind place bytes (fault.Text at) =
    (kind ≡ 2) × (at ≡ place + 4) × ((t : List ℕ) × (last : ℕ) × (rest : List ℕ)
    × (bytes ≡ to_le_bytes w32 (length t + 1) ++ t ++ last ∷ rest) × (length t + 1 < 2 ^ 32)
    × ((last ≢ 0) ⊎ (is_utf8 t ≡ false)))
IsNoValue kind place bytes (fault.Bool at) = (kind ≡ 8) × (at ≡ place)
    × ((byte : ℕ) × (rest : List ℕ) × (bytes ≡ byte ∷ rest) × (1 < byte))
IsNoValue kind place bytes other = ⊥

abbrev pub HasNoValue : ℕ → List ℕ → BsonErr → Type 0
HasNoValue place bytes e = (kind : ℕ) × (name : List ℕ) × (value : List ℕ) × (bytes
    ≡ headed kind name value) × IsName name × IsNoValue kind (place + 2 + length name) value e

-- the element at the head has the fault itself
abbrev pub IsAtHead : ℕ → ℕ → List ℕ → BsonErr → Type 0
IsAtHead start place bytes e = (IsNoKind place bytes e ⊎ IsEarlyEnd start bytes e)
    ⊎ (IsNoName place bytes e ⊎ HasNoValue place bytes e)

-- a document, or a list
abbrev pub Nests : ℕ → Type 0
Nests kind = (kind ≡ 3) ⊎ (kind ≡ 4)

abbrev pub HoldsNest : (ℕ → List ℕ → Type 0) → ℕ → List ℕ → Type 0
HoldsNest There place bytes = (kind : ℕ) × (name : List ℕ) × (value : List ℕ) × Nests kind
    × IsName name × (bytes ≡ headed kind name value) × There (place + 2 + length name) value

-- one level too deep, whatever stands there
abbrev pub IsTooDeep : BsonErr → ℕ → List ℕ → Type 0
IsTooDeep e place bytes = e ≡ fault.Deep place

-- a count that is cut, below 5, or past the end of the holder
abbrev pub HasWrongCount : BsonErr → ℕ → List ℕ → Type 0
HasWrongCount e place bytes =
    (e ≡ fault.Length place) × ((length bytes < 4) ⊎ ((n : ℕ) × (rest : List ℕ)
    × (bytes ≡ to_le_bytes w32 n ++ rest) × (n < 2 ^ 32) × ((n < 5) ⊎ (length rest < n - 4))))

-- elements after a count, a last byte, and anything after it
abbrev pub Holds : (ℕ → List ℕ → ℕ → Type 0) → ℕ → List ℕ → Type 0
Holds Inside place bytes =
    (elements : List ℕ) × (last : ℕ) × (rest : List ℕ)
    × (bytes ≡ to_le_bytes w32 (length elements + 5) ++ elements ++ last ∷ rest)
    × (length elements + 5 < 2 ^ 32) × Inside place elements last

-- after well-formed elements, with at most so many levels in them
abbrev pub Behind : ℕ → (ℕ → List ℕ → Type 0) → ℕ → List ℕ → Type 0
Behind levels There start elements =
    (fields : Document) × (front : List ℕ) × (rest : List ℕ)
    × ReadsElements (ReadsAt levels) fields front × (elements ≡ front ++ rest)
    × There (start + 4 + length front) rest

-- all elements are well formed, and the last byte isn't the 00
abbrev pub IsWrongEnd : ℕ → BsonErr → ℕ → List ℕ → ℕ → Type 0
IsWrongEnd levels e start elements last = (e ≡ fault.Length start)
    × ((fields : Document) × ReadsElements (ReadsAt levels) fields elements) × (last ≢ 0)

-- this is the first fault of a document whose count stands at `start`, which may hold so many
-- levels
unfoldable pub IsFirst : ℕ → BsonErr → ℕ → List ℕ → ℕ → Type 0
IsFirst zero e start elements last =
    Behind zero (λ place bytes. IsAtHead start place bytes e ⊎ HoldsNest (IsTooDeep e) place bytes)
    start elements ⊎ IsWrongEnd zero e start elements last
IsFirst (suc levels) e start elements last =
    Behind (suc levels) (λ place bytes. IsAtHead start place bytes e ⊎ (HoldsNest (HasWrongCount e)
    place bytes ⊎ HoldsNest (Holds (IsFirst levels e)) place bytes)) start elements
    ⊎ IsWrongEnd (suc levels) e start elements last

-- The whole: fewer than 5 bytes; a count above the limit; a count that isn't that of the bytes; or
-- the first fault of what they count.

abbrev pub IsShort : List ℕ → BsonErr → Type 0
IsShort bytes e = (e ≡ fault.Short) × (length bytes < 5)

abbrev pub IsAboveLimit : ℕ → List ℕ → BsonErr → Type 0
IsAboveLimit limit bytes e = (e ≡ fault.TooLarge) × (5 ≤ length bytes)
    × (min limit most < number_from 0 bytes)

abbrev pub HasOtherLength : ℕ → List ℕ → BsonErr → Type 0
HasOtherLength limit bytes e = (e ≡ fault.Length 0) × (5 ≤ length bytes)
    × (number_from 0 bytes ≤ min limit most) × (number_from 0 bytes ≢ length bytes)

abbrev pub HasFirst : ℕ → List ℕ → BsonErr → Type 0
HasFirst limit bytes e =
    (elements : List ℕ) × (last : ℕ) × (bytes ≡ to_le_bytes w32 (length elements + 5) ++ elements
    ++ last ∷ []) × (length elements + 5 ≤ min limit most) × IsFirst 99 e 0 elements last

abbrev pub IsTold : ℕ → List ℕ → BsonErr → Type 0
IsTold limit bytes e = (IsShort bytes e ⊎ IsAboveLimit limit bytes e)
    ⊎ (HasOtherLength limit bytes e ⊎ HasFirst limit bytes e)
