-- Reading front to back, as functions on lists: a value and the bytes after it, or the first
-- fault, with its place.
--
-- A value is read from the bytes that are left of the document that holds it, without that
-- document's last byte. `end` is the place of this last byte, so the bytes that are left begin at
-- the place `end - length bytes`.
use Rattle.std.specs.Prelude.{ℕ, min, zero, suc, ◌+◌, ◌-◌, Bool, true, false, List, [], ◌∷◌, length}
use Rattle.std.specs.Prelude.{take, drop, slice_index, Option, Some, None, position, Result, Ok}
use Rattle.std.specs.Prelude.{Err, nat_lt, ◌==◌, if◌then◌else◌}
use Rattle.std.specs.Int.{Width, w32, w64, byte_len, from_le_bytes, cast_signed}
use Rattle.std.specs.Str.{is_utf8}
use Rattle.outcomes.specs.Bind.{◌>>=◌}
use Rattle.outcomes.specs.Outcome as outcome
use Rattle.bson_core.specs.declared.error.BsonErr.{BsonErr}
use Rattle.bson_core.specs.declared.error.BsonErr.TheVariants.{Short, Length, TooLarge, Memory}
use Rattle.bson_core.specs.declared.error.BsonErr.TheVariants.{Deep}
use Rattle.bson_core.specs.declared.error.BsonErr.TheVariants as fault
use Rattle.bson_core.specs.declared.kind.Leaf.{Leaf}
use Rattle.bson_core.specs.declared.kind.Leaf.TheVariants as leaf
use Rattle.bson_core.specs.declared.kind.Kind.{Kind}
use Rattle.bson_core.specs.declared.kind.Kind.TheVariants as kind
use Rattle.bson_core.specs.declared.value.Bin.{Bin}
use Rattle.bson_core.specs.declared.value.Value.{Value}
use Rattle.bson_core.specs.declared.value.Value.TheViews.{roll-Value}
use Rattle.bson_core.specs.declared.value.Value.TheOpen as of
use Rattle.bson_core.specs.Fields.{Document}
use Rattle.bson_core.specs.Grammar.{values_of}
use Rattle.bson_core.specs.Kinds.{kind_of}

-- out of memory, which no function on lists answers
abbrev pub is_memory : BsonErr → Bool
is_memory Memory = true
is_memory e = false

-- what a function returned, seen by view, is what reading gives, unless memory ran out
abbrev pub Gives : {X Y : Type 0} → (X → Y) → Result X BsonErr → Result Y BsonErr → Type 0
Gives view result read = outcome.Gives is_memory view result read

-- a value and the bytes after it, or the first fault
abbrev pub Field : Type 0 → Type 0
Field A = Result (A × List ℕ) BsonErr

-- where the bytes begin
abbrev pub place : ℕ → List ℕ → ℕ
place end bytes = end - length bytes

-- what was found, or that fault
abbrev pub or_fault : {A : Type 0} → BsonErr → Option A → Result A BsonErr
or_fault e None = Err e
or_fault e (Some x) = Ok x

-- a number, its lowest byte first, and the bytes after it
unfoldable pub number_at : Width → List ℕ → Option (ℕ × List ℕ)
number_at w bytes = if nat_lt (length bytes) (byte_len w) then None
    else Some (from_le_bytes w (take (byte_len w) bytes), drop (byte_len w) bytes)

-- a count
unfoldable pub count_at : ℕ → List ℕ → Field ℕ
count_at end bytes = or_fault (Length (place end bytes)) (number_at w32 bytes)

-- the bytes before the first 00, which are a text, and those after it
abbrev pub cut_at : ℕ → Option ℕ → List ℕ → Field (List ℕ)
cut_at end None bytes = Err Short
cut_at end (Some n) bytes = if is_utf8 (take n bytes) then Ok (take n bytes, drop (n + 1) bytes)
    else Err (fault.Text (place end bytes))

unfoldable pub name_at : ℕ → List ℕ → Field (List ℕ)
name_at end bytes = cut_at end (position (λ b. b == 0) bytes) bytes

-- a count, as many bytes, which are a text and a 00
unfoldable pub text_at : ℕ → List ℕ → Field (List ℕ)
text_at end bytes = do
  n ← count_at end bytes
  if n.0 == 0 then Err (Length (place end bytes)) else (if nat_lt (length n.1) n.0
      then Err (Length (place end bytes)) else (if slice_index n.1 (n.0 - 1) == 0
      then (if is_utf8 (take (n.0 - 1) n.1) then Ok (take (n.0 - 1) n.1, drop n.0 n.1)
      else Err (fault.Text (place end n.1))) else Err (fault.Text (place end n.1))))

-- a count, a subtype, as many bytes
unfoldable pub binary_at : ℕ → List ℕ → Field Bin
binary_at end bytes = do
  n ← count_at end bytes
  if nat_lt (length n.1) (n.0 + 1) then Err (Length (place end bytes)) else Ok
      (record { subtype = slice_index n.1 0; bytes = take n.0 (drop 1 n.1) }, drop (n.0 + 1) n.1)

unfoldable pub object_id_at : List ℕ → Field (List ℕ)
object_id_at bytes = if nat_lt (length bytes) 12 then Err Short
    else Ok (take 12 bytes, drop 12 bytes)

unfoldable pub flag_at : ℕ → List ℕ → Field Bool
flag_at end [] = Err Short
flag_at end (b ∷ bytes) = if b == 0 then Ok (false, bytes)
    else (if b == 1 then Ok (true, bytes) else Err (fault.Bool (place end (b ∷ bytes))))

-- a number of that width, which is a value of a fixed size
abbrev pub fixed_at : Width → List ℕ → Field ℕ
fixed_at w bytes = or_fault Short (number_at w bytes)

unfoldable pub leaf_at : Leaf → ℕ → List ℕ → Field Value
leaf_at leaf.Text end bytes = text_at end bytes >>= λ x. Ok (roll-Value (of.Text x.0), x.1)
leaf_at leaf.Bin end bytes = binary_at end bytes >>= λ x. Ok (roll-Value (of.Bin x.0), x.1)
leaf_at leaf.Oid end bytes = object_id_at bytes >>= λ x. Ok (roll-Value (of.Oid x.0), x.1)
leaf_at leaf.Bool end bytes = flag_at end bytes >>= λ x. Ok (roll-Value (of.Bool x.0), x.1)
leaf_at leaf.Date end bytes =
    fixed_at w64 bytes >>= λ x. Ok (roll-Value (of.Date (cast_signed w64 x.0)), x.1)
leaf_at leaf.Null end bytes = Ok (roll-Value of.Null, bytes)
leaf_at leaf.Int end bytes =
    fixed_at w32 bytes >>= λ x. Ok (roll-Value (of.Int (cast_signed w32 x.0)), x.1)
leaf_at leaf.Stamp end bytes = fixed_at w64 bytes >>= λ x. Ok (roll-Value (of.Stamp x.0), x.1)
leaf_at leaf.Long end bytes =
    fixed_at w64 bytes >>= λ x. Ok (roll-Value (of.Long (cast_signed w64 x.0)), x.1)

-- the kind with a type byte that stands there
abbrev pub kind_at : ℕ → ℕ → Result Kind BsonErr
kind_at start byte = or_fault (fault.Kind start byte) (kind_of byte)

-- what reads a value of a kind, and what reads a document in another
abbrev pub Reader : Type 0
Reader = Kind → ℕ → List ℕ → Field Value

abbrev pub Nested : Type 0
Nested = ℕ → List ℕ → Field Document

unfoldable pub value_by : Nested → Reader
value_by nested kind.Doc end bytes = nested end bytes >>= λ x. Ok (roll-Value (of.Doc x.0), x.1)
value_by nested kind.List end bytes =
    nested end bytes >>= λ x. Ok (roll-Value (of.List (values_of x.0)), x.1)
value_by nested (kind.Leaf l) end bytes = leaf_at l end bytes

-- an element and the bytes after it, or none where the document's last byte is next; `start` is
-- the place of its count
unfoldable pub element_at : Reader → ℕ → ℕ → List ℕ
    → Result (Option ((List ℕ × Value) × List ℕ)) BsonErr
element_at read start end [] = Ok None
element_at read start end (byte ∷ bytes) =
    if byte == 0 then Err (Length start) else (do
      kind ← kind_at (place end (byte ∷ bytes)) byte
      name ← name_at end bytes
      value ← read kind end name.1
      Ok (Some ((name.0, value.0), value.1)))

-- what stands after an element
abbrev pub behind : (List ℕ → Result Document BsonErr) → Option ((List ℕ × Value) × List ℕ)
    → Result Document BsonErr
behind next None = Ok []
behind next (Some x) = next x.1 >>= λ fields. Ok (x.0 ∷ fields)

-- elements up to the document's last byte, fewer than so many: a document has fewer elements than
-- bytes
unfoldable pub elements_at : Reader → ℕ → ℕ → ℕ → List ℕ → Result Document BsonErr
elements_at read start end zero bytes = Err (Length start)
elements_at read start end (suc n) bytes =
    element_at read start end bytes >>= λ o. behind (elements_at read start end n) o

-- the elements, and then the last byte
unfoldable pub body_at : Reader → ℕ → ℕ → List ℕ → ℕ → Result Document BsonErr
body_at read start end inside last = do
  fields ← elements_at read start end (length inside + 1) inside
  if last == 0 then Ok fields else Err (Length start)

-- a count, and a document in as many bytes
unfoldable pub document_at : Reader → Nested
document_at read end bytes = do
  n ← count_at end bytes
  if nat_lt n.0 5 then Err (Length (place end bytes))
      else (if nat_lt (length n.1) (n.0 - 4) then Err (Length (place end bytes))
      else (body_at read (place end bytes) (place end (drop (n.0 - 4) n.1) - 1) (take (n.0 - 5) n.1)
      (slice_index n.1 (n.0 - 5)) >>= λ fields. Ok (fields, drop (n.0 - 4) n.1)))

-- a document in another, with so many levels left, itself included
unfoldable pub nested_at : ℕ → Nested
nested_at zero end bytes = Err (Deep (place end bytes))
nested_at (suc levels) end bytes = document_at (value_by (nested_at levels)) end bytes

-- the document of at most 100 levels that is all of the bytes, or the first fault
unfoldable pub document_of : ℕ → List ℕ → Result Document BsonErr
document_of limit bytes =
    if nat_lt (length bytes) 5 then Err Short else (do
      n ← fixed_at w32 bytes
      if nat_lt (min limit 2147483647) n.0 then Err TooLarge else (if n.0 == length bytes
          then (nested_at 100 (length bytes) bytes >>= λ x. Ok x.0) else Err (Length 0)))
