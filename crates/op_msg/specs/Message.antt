-- Messages, after the pages of the MongoDB wire protocol on OP_MSG, OP_QUERY and OP_REPLY. Each
-- begins with a header of four int32: the length of the whole message, requestID, responseTo and
-- opCode.
--
-- OP_MSG, 2013, has flagBits, sections, and where the lowest flag is set a checksum of four bytes.
-- A section of kind 0 is one document, the body. One of kind 1 is a sequence: a size that counts
-- itself, a name ended by 00, and documents.
--
-- Older clients begin by an OP_QUERY, 2004, which has flags, a collection's name ended by 00,
-- numberToSkip, numberToReturn, a document, and maybe a second one that says which fields are
-- wanted. It is answered by an OP_REPLY, 1: responseFlags, an int64 cursorID, startingFrom,
-- numberReturned, and as many documents.
use Rattle.std.specs.Prelude.{◌≡◌, ℕ, ℤ, ◌+◌, ◌^◌, ◌<◌, ◌≤◌, ◌/◌, ◌%◌, ◌⊎◌, ◌==◌, Bool, true, false}
use Rattle.std.specs.Prelude.{List, [], ◌∷◌, ◌++◌, length, Option, Some, None, IsTrue, FitsSigned}
use Rattle.std.specs.Prelude.{codes, if◌then◌else◌}
use Rattle.std.proofs.Common.{inl, inr}
use Rattle.std.specs.List.{flat_map}
use Rattle.std.specs.Int.{w32, cast_unsigned}
use Rattle.std.specs.Str.{bytes_eq}
use Rattle.op_msg.specs.Limits.{most_internal, most_message}
use Rattle.bson_core.specs.declared.value.Value.{Value}
use Rattle.bson_core.specs.declared.value.Value.TheOpen as of
use Rattle.bson_core.specs.declared.value.Value.TheOpen.{Value-F}
use Rattle.bson_core.specs.declared.value.Value.TheViews.{out-Value}
use Rattle.bson_core.specs.Names.{IsName}
use Rattle.bson_core.specs.Fields.{Document, value_of}
use Rattle.bson_core.specs.Grammar.{Reads}
use Rattle.bson_core.specs.Spelling.{spelling}
use Rattle.op_msg.specs.Words.{word}
use Rattle.op_msg.specs.declared.frame.Frame.{Frame}

-- the header, with opCode 2013, and flagBits
unfoldable pub front : ℕ → ℤ → ℤ → ℕ → List ℕ
front len request_id response_to flags = word len ++ word (cast_unsigned w32 request_id)
    ++ word (cast_unsigned w32 response_to) ++ word 2013 ++ word flags

-- a name and documents
abbrev pub Sequence : Type 0
Sequence = List ℕ × List Document

-- a section of kind 1, of a name and of the bytes of its documents
unfoldable pub sequence_section : List ℕ → List ℕ → List ℕ
sequence_section name documents =
    1 ∷ word (4 + length name + 1 + length documents) ++ name ++ 0 ∷ documents

-- What is written: the body first, then the sequences, and no checksum.

abbrev pub sequences : List Sequence → List ℕ
sequences seqs = flat_map (λ seq. sequence_section seq.0 (flat_map spelling seq.1)) seqs

abbrev pub sections : Frame → List ℕ
sections f = 0 ∷ spelling f.body ++ sequences f.seqs

-- moreToCome is the flag of value 2
abbrev pub flags_of : Bool → ℕ
flags_of more = if more then 2 else 0

-- the header of an OP_REPLY, with opCode 1, no flags, the cursor 0, from 0 on one document
unfoldable pub reply_front : ℕ → ℤ → ℤ → List ℕ
reply_front len request_id response_to = word len ++ word (cast_unsigned w32 request_id) ++ word
    (cast_unsigned w32 response_to) ++ word 1 ++ word 0 ++ (word 0 ++ word 0) ++ word 0 ++ word 1

-- the one spelling of a message; one in the older form is an OP_REPLY of its body alone
abbrev pub message_by : Bool → Frame → List ℕ
message_by false f =
    front (20 + length (sections f)) f.request_id f.response_to (flags_of f.more) ++ sections f
message_by true f =
    reply_front (36 + length (spelling f.body)) f.request_id f.response_to ++ spelling f.body

abbrev pub message : Frame → List ℕ
message f = message_by f.legacy f

-- What is read.

-- whether the flag of value 2 ^ bit is set
abbrev pub has_flag : ℕ → ℕ → Bool
has_flag bit flags = flags / 2 ^ bit % 2 == 1

-- documents one after the other
abbrev pub ReadsDocuments : List Document → List ℕ → Type 0
ReadsDocuments [] bytes = bytes ≡ []
ReadsDocuments (doc ∷ docs) bytes = (first : List ℕ) × (rest : List ℕ) × Reads 100 doc first
    × (bytes ≡ first ++ rest) × ReadsDocuments docs rest

-- the sections after one another: those of kind 0 have the documents `bodies`, those of kind 1 are
-- the sequences
abbrev pub Section : Type 0
Section = Document ⊎ Sequence

abbrev pub ReadsSection : Section → List ℕ → Type 0
ReadsSection (inl doc) bytes = (b : List ℕ) × Reads 100 doc b × (bytes ≡ 0 ∷ b)
ReadsSection (inr seq) bytes = (documents : List ℕ) × IsName seq.0 × ReadsDocuments seq.1 documents
    × (bytes ≡ sequence_section seq.0 documents)

abbrev pub ReadsSections : List Section → List ℕ → Type 0
ReadsSections [] bytes = bytes ≡ []
ReadsSections (section ∷ more) bytes = (first : List ℕ) × (rest : List ℕ)
    × ReadsSection section first × (bytes ≡ first ++ rest) × ReadsSections more rest

abbrev pub bodies : List Section → List Document
bodies [] = []
bodies (inl doc ∷ more) = doc ∷ bodies more
bodies (inr seq ∷ more) = bodies more

abbrev pub sequences_of : List Section → List Sequence
sequences_of [] = []
sequences_of (inl doc ∷ more) = sequences_of more
sequences_of (inr seq ∷ more) = seq ∷ sequences_of more

-- the value is this text
abbrev pub is_text : List ℕ → Value-F Value → Bool
is_text t (of.Text s) = bytes_eq s t
is_text t other = false

-- a message between nodes: the body's first `$db` is the text "mtx"
abbrev pub is_internal : Document → Bool
is_internal body = elim (value_of (codes "$db") body)
    [ None ↦ false | Some db ↦ is_text (codes "mtx") (out-Value db) ]

-- 48,000,000 bytes, and 400,000,000 between nodes
pub record IsWithinLimits (len : ℕ) (body : Document) : Type 0 where
  pub most : len ≤ most_internal
  pub client : (len ≤ most_message) ⊎ IsTrue (is_internal body)

-- Flags 2 to 15 must be understood, and none of them is. Flag 0 says that a checksum follows, flag
-- 1 is moreToCome; the others may be passed over.
pub record AreFlags (flags : ℕ) (more : Bool) (checksum : List ℕ) : Type 0 where
  pub fits : flags < 2 ^ 32
  pub known : (bit : ℕ) → 2 ≤ bit → bit < 16 → has_flag bit flags ≡ false
  pub more_to_come : has_flag 1 flags ≡ more
  pub sum : length checksum ≡ (if has_flag 0 flags then 4 else 0)

-- the bytes, all of them, are this OP_MSG
pub record IsCurrent (bytes : List ℕ) (f : Frame) : Type 0 where
  pub flags : ℕ
  pub parts : List Section
  pub inside : List ℕ
  pub checksum : List ℕ
  pub spelled : bytes ≡ front (length bytes) f.request_id f.response_to flags ++ inside ++ checksum
  pub request_id : FitsSigned w32 f.request_id
  pub response_to : FitsSigned w32 f.response_to
  pub are_flags : AreFlags flags f.more checksum
  pub reads : ReadsSections parts inside
  pub body : bodies parts ≡ f.body ∷ []
  pub seqs : sequences_of parts ≡ f.seqs
  pub limits : IsWithinLimits (length bytes) f.body
  pub modern : f.legacy ≡ false

-- nothing stands there, or that document
abbrev pub MayRead : Option Document → List ℕ → Type 0
MayRead None bytes = bytes ≡ []
MayRead (Some doc) bytes = Reads 100 doc bytes

-- what stands in an OP_QUERY after its header and in front of its documents
pub record Query : Type 0 where
  pub flags : ℕ
  pub collection : List ℕ
  pub skip : ℕ
  pub count : ℕ

unfoldable pub query_front : Query → List ℕ
query_front q = word q.flags ++ (q.collection ++ 0 ∷ []) ++ word q.skip ++ word q.count

pub record IsQuery (q : Query) : Type 0 where
  pub flags : q.flags < 2 ^ 32
  pub collection : IsName q.collection
  pub skip : q.skip < 2 ^ 32
  pub count : q.count < 2 ^ 32

-- the header of an OP_QUERY, with opCode 2004
unfoldable pub query_header : ℕ → ℤ → ℤ → List ℕ
query_header len request_id response_to = word len ++ word (cast_unsigned w32 request_id)
    ++ word (cast_unsigned w32 response_to) ++ word 2004

-- the bytes, all of them, are this OP_QUERY; its second document is read and dropped
pub record IsOlder (bytes : List ℕ) (f : Frame) : Type 0 where
  pub query : Query
  pub selector : Option Document
  pub first : List ℕ
  pub second : List ℕ
  pub spelled : bytes ≡ query_header (length bytes) f.request_id f.response_to ++ query_front query
      ++ first ++ second
  pub request_id : FitsSigned w32 f.request_id
  pub response_to : FitsSigned w32 f.response_to
  pub is_query : IsQuery query
  pub body : Reads 100 f.body first
  pub fields : MayRead selector second
  pub limits : IsWithinLimits (length bytes) f.body
  pub older : f.legacy ≡ true
  pub no_more : f.more ≡ false
  pub no_sequences : f.seqs ≡ []

-- the bytes, all of them, are this message
abbrev pub IsMessage : List ℕ → Frame → Type 0
IsMessage bytes f = IsCurrent bytes f ⊎ IsOlder bytes f
