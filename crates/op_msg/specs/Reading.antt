-- Reading a message front to back, as functions on lists: the message, or its first fault.
use Rattle.std.specs.Prelude.{ℕ, zero, suc, ◌+◌, ◌-◌, Bool, true, false, not, List, [], ◌∷◌, ◌++◌}
use Rattle.std.specs.Prelude.{length, take, drop, Option, Some, None, Result, Ok, Err, nat_lt, ◌==◌}
use Rattle.std.specs.Prelude.{◌&&◌, ◌||◌, if◌then◌else◌}
use Rattle.std.specs.Int.{w32, cast_signed}
use Rattle.op_msg.specs.Limits.{most_internal, most_message}
use Rattle.outcomes.specs.Bind.{◌>>=◌}
use Rattle.bson_core.specs.declared.error.BsonErr.{BsonErr}
use Rattle.bson_core.specs.Fields.{Document}
use Rattle.bson_core.specs.Reading.{number_at, document_of}
use Rattle.bson_core.specs.Reading as document
use Rattle.op_msg.specs.Message.{Sequence, has_flag, is_internal}
use Rattle.op_msg.specs.Errors.{from_document}
use Rattle.op_msg.specs.declared.header.Header.{Header}
use Rattle.op_msg.specs.declared.frame.Frame.{Frame}
use Rattle.op_msg.specs.declared.frame.FrameErr.{FrameErr}
use Rattle.op_msg.specs.declared.frame.FrameErr.TheVariants.{Length, OpCode, Flags, Section, NoBody}
use Rattle.op_msg.specs.declared.frame.FrameErr.TheVariants.{TwoBodies, TooLarge}

-- what was found, or that fault
abbrev pub or_fault : {A : Type 0} → FrameErr → Option A → Result A FrameErr
or_fault e None = Err e
or_fault e (Some x) = Ok x

-- a number, which is a part of a section
abbrev pub number : List ℕ → Result (ℕ × List ℕ) FrameErr
number bytes = or_fault Section (number_at w32 bytes)

-- how many bytes a document is read from: as many as its count says, or all that are left where the
-- count doesn't fit
abbrev pub extent_by : ℕ → Option (ℕ × List ℕ) → ℕ
extent_by left None = left
extent_by left (Some n) = if nat_lt n.0 5 || nat_lt left n.0 then left else n.0

unfoldable pub extent : List ℕ → ℕ
extent bytes = extent_by (length bytes) (number_at w32 bytes)

abbrev pub as_message : {A : Type 0} → Result A BsonErr → Result A FrameErr
as_message (Ok x) = Ok x
as_message (Err e) = Err (from_document e)

-- a document and the bytes after it
unfoldable pub document_at : List ℕ → Result (Document × List ℕ) FrameErr
document_at bytes = as_message (document_of most_internal (take (extent bytes) bytes))
    >>= λ doc. Ok (doc, drop (extent bytes) bytes)

-- documents after those in front, to the end of the bytes: fewer than so many
unfoldable pub documents_at : ℕ → List Document → List ℕ → Result (List Document) FrameErr
documents_at zero front bytes = Err Section
documents_at (suc n) front [] = Ok front
documents_at (suc n) front (b ∷ bytes) =
    document_at (b ∷ bytes) >>= λ x. documents_at n (front ++ x.0 ∷ []) x.1

-- the name before the first 00, and the bytes after it; a name that isn't one is a fault of its
-- section
abbrev pub as_section : {A : Type 0} → Result A BsonErr → Result A FrameErr
as_section (Ok x) = Ok x
as_section (Err e) = Err Section

unfoldable pub name_at : List ℕ → Result (List ℕ × List ℕ) FrameErr
name_at bytes = as_section (document.name_at 0 bytes)

-- a section of kind 1, without its kind, and the bytes after it
unfoldable pub sequence_at : List ℕ → Result (Sequence × List ℕ) FrameErr
sequence_at bytes = do
  size ← number bytes
  if nat_lt size.0 4 || nat_lt (length size.1) (size.0 - 4) then Err Section else (do
    name ← name_at (take (size.0 - 4) size.1)
    docs ← documents_at (length name.1 + 1) [] name.1
    Ok ((name.0, docs), drop (size.0 - 4) size.1))

-- what was read of a message's sections: its body, if it came, and its sequences
abbrev pub Found : Type 0
Found = Option Document × List Sequence

abbrev pub with_body : Option Document → List Sequence → List ℕ → Result (Found × List ℕ) FrameErr
with_body None seqs bytes = document_at bytes >>= λ x. Ok ((Some x.0, seqs), x.1)
with_body (Some body) seqs bytes = Err TwoBodies

-- one section more
unfoldable pub section_at : Found → ℕ → List ℕ → Result (Found × List ℕ) FrameErr
section_at found kind bytes =
    if kind == 0 then with_body found.0 found.1 bytes else
    (if kind == 1 then (sequence_at bytes >>= λ x. Ok ((found.0, found.1 ++ x.0 ∷ []), x.1))
    else Err Section)

-- the body, which has to be there, and the sequences
abbrev pub finish : Found → Result (Document × List Sequence) FrameErr
finish found = or_fault NoBody found.0 >>= λ body. Ok (body, found.1)

-- sections after what was found, to the end of the bytes: fewer than so many
unfoldable pub sections_at : ℕ → Found → List ℕ → Result (Document × List Sequence) FrameErr
sections_at zero found bytes = Err Section
sections_at (suc n) found [] = finish found
sections_at (suc n) found (kind ∷ bytes) =
    section_at found kind bytes >>= λ x. sections_at n x.0 x.1

-- the least flag among so many, from that bit on, which is set
abbrev pub least_flag : ℕ → ℕ → ℕ → Option ℕ
least_flag zero bit flags = None
least_flag (suc n) bit flags = if has_flag bit flags then Some bit else least_flag n (bit + 1) flags

-- no flag from 2 to 15 may be set
abbrev pub known_by : Option ℕ → Result ℕ FrameErr → Result ℕ FrameErr
known_by None flags = flags
known_by (Some bit) flags = Err (Flags bit)

-- the bytes of the sections, without a checksum
abbrev pub without_sum : Bool → List ℕ → Result (List ℕ) FrameErr
without_sum false bytes = Ok bytes
without_sum true bytes = if nat_lt (length bytes) 4 then Err Section
    else Ok (take (length bytes - 4) bytes)

-- the flags and the sections after a header
unfoldable pub contents_at : List ℕ → Result (Bool × Document × List Sequence) FrameErr
contents_at bytes = do
  flags ← number bytes
  known ← known_by (least_flag 14 2 flags.0) (Ok flags.0)
  inside ← without_sum (has_flag 0 known) flags.1
  found ← sections_at (length inside + 1) (None, []) inside
  Ok (has_flag 1 known, found.0, found.1)

-- what stands after the first document of an OP_QUERY: nothing, or a second one, and nothing
-- after it
abbrev pub at_end : List ℕ → Result (Unit {0}) FrameErr
at_end [] = Ok tt
at_end (b ∷ bytes) = Err Section

abbrev pub second_at : List ℕ → Result (Unit {0}) FrameErr
second_at [] = Ok tt
second_at (b ∷ bytes) = document_at (b ∷ bytes) >>= λ x. at_end x.1

-- the first document of an OP_QUERY, after its header
unfoldable pub query_at : List ℕ → Result Document FrameErr
query_at bytes = do
  flags ← number bytes
  collection ← name_at flags.1
  skip ← number collection.1
  count ← number skip.1
  body ← document_at count.1
  second ← second_at body.1
  Ok body.0

-- what stands after a header: an OP_QUERY is never followed by more, and has no sequences
abbrev pub contents_in : Bool → List ℕ → Result (Bool × Document × List Sequence) FrameErr
contents_in false bytes = contents_at bytes
contents_in true bytes = query_at bytes >>= λ body. Ok (false, body, [])

-- whether an operation that is read is the older one
abbrev pub is_older : ℕ → Result Bool FrameErr
is_older op_code = if op_code == 2013 then Ok false
    else (if op_code == 2004 then Ok true else Err OpCode)

-- a number of the header
abbrev pub header_number : List ℕ → Result (ℕ × List ℕ) FrameErr
header_number bytes = or_fault Length (number_at w32 bytes)

unfoldable pub header_at : List ℕ → Result (Header × List ℕ) FrameErr
header_at bytes = do
  len ← header_number bytes
  request ← header_number len.1
  response ← header_number request.1
  op ← header_number response.1
  Ok (
    record { len = len.0; request_id = request.0; response_to = response.0; op_code = op.0 },
    op.1,
  )

-- what a message of that length holds, within the limits for it
abbrev pub contents_within : Bool → ℕ → List ℕ → Result (Bool × Document × List Sequence) FrameErr
contents_within legacy len bytes = do
  contents ← contents_in legacy bytes
  if nat_lt most_message len && not (is_internal contents.1) then Err TooLarge else Ok contents

abbrev pub frame_by : Header → Bool → Bool × Document × List Sequence → Frame
frame_by header legacy contents = record {
  request_id = cast_signed w32 header.request_id;
  response_to = cast_signed w32 header.response_to;
  legacy = legacy;
  more = contents.0;
  body = contents.1;
  seqs = contents.2;
}

-- the length in a header is an int32, so it is below 2 ^ 31
abbrev pub is_length : ℕ → ℕ → Bool
is_length len count = len == count && nat_lt len 2147483648

-- the message that is all of the bytes, or its first fault
unfoldable pub frame_of : List ℕ → Result Frame FrameErr
frame_of bytes = do
  header ← header_at bytes
  if not (is_length header.0.len (length bytes)) then Err Length else
      (if nat_lt most_internal (length bytes) then Err TooLarge else
      (is_older header.0.op_code >>= λ legacy. contents_within legacy (length bytes) header.1
      >>= λ contents. Ok (frame_by header.0 legacy contents)))
