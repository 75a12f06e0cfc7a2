-- What the faults of documents and of messages say of the bytes that were to be read, in the words
-- of BSON 1.1 (bsonspec.org) and of the MongoDB wire protocol.
use Rattle.std.specs.Prelude.{◌≡◌, ◌≢◌, ℕ, ◌≤◌, ◌<◌, ◌^◌, min, true, false, List, length, take}
use Rattle.std.specs.Prelude.{drop, slice_index, None}
use Rattle.std.specs.Int.{w32, from_le_bytes}
use Rattle.op_msg.specs.Limits.{most_internal, most_message}
use Rattle.bson_core.specs.declared.error.BsonErr.{BsonErr}
use Rattle.bson_core.specs.declared.error.BsonErr.TheVariants as document
use Rattle.bson_core.specs.Kinds.{kind_of}
use Rattle.bson_core.specs.Written.{most}
use Rattle.op_msg.specs.Message.{has_flag}
use Rattle.op_msg.specs.declared.frame.FrameErr.{FrameErr}
use Rattle.op_msg.specs.declared.frame.FrameErr.TheVariants as message

-- the number of the four bytes from a place on, the lowest first
abbrev pub number_from : ℕ → List ℕ → ℕ
number_from place bytes = from_le_bytes w32 (take 4 (drop place bytes))

-- what a document's fault says of the bytes, with a limit on their number: a place is one of
-- theirs, or after the last; at that of a kind stands the byte, which is no kind's; at that of a
-- truth value a byte above 1
abbrev pub IsThere : ℕ → List ℕ → BsonErr → Type 0
IsThere limit bytes document.Short = Unit {0}
IsThere limit bytes (document.Length at) = at ≤ length bytes
IsThere limit bytes (document.Kind at byte) = (at < length bytes) × (slice_index bytes at ≡ byte)
    × (kind_of byte ≡ None)
IsThere limit bytes (document.Text at) = at ≤ length bytes
IsThere limit bytes (document.Bool at) = (at < length bytes) × (1 < slice_index bytes at)
IsThere limit bytes (document.Deep at) = at ≤ length bytes
IsThere limit bytes document.TooLarge = (5 ≤ length bytes) × (min limit most < number_from 0 bytes)
IsThere limit bytes document.Memory = ⊥

-- there are the 16 bytes of a header, and its first number, an int32 that isn't negative, is that
-- of all bytes
pub record HasItsLength (bytes : List ℕ) : Type 0 where
  pub header : 16 ≤ length bytes
  pub positive : length bytes < 2 ^ 31
  pub same : number_from 0 bytes ≡ length bytes

-- the fourth number of the header
abbrev pub op_code : List ℕ → ℕ
op_code bytes = number_from 12 bytes

-- neither an OP_MSG nor an OP_QUERY
pub record HasOtherCode (bytes : List ℕ) : Type 0 where
  pub message : op_code bytes ≢ 2013
  pub query : op_code bytes ≢ 2004

-- of an OP_MSG's flags, which stand after its header, this one is the least of those from 2 to 15
-- that are set
pub record IsLeastUnknown (bit : ℕ) (bytes : List ℕ) : Type 0 where
  pub message : op_code bytes ≡ 2013
  pub there : 20 ≤ length bytes
  pub above : 2 ≤ bit
  pub below : bit < 16
  pub set : has_flag bit (number_from 16 bytes) ≡ true
  pub least : (k : ℕ) → 2 ≤ k → k < bit → has_flag k (number_from 16 bytes) ≡ false

-- a message that is read further: it has its length, which is at most 400,000,000
pub record IsFramed (bytes : List ℕ) : Type 0 where
  pub whole : HasItsLength bytes
  pub most : length bytes ≤ most_internal

-- what a message's fault says of the bytes. Those of the contents come after the header's
abbrev pub IsSaid : List ℕ → FrameErr → Type 0
IsSaid bytes message.Length = HasItsLength bytes → ⊥
IsSaid bytes message.TooLarge = HasItsLength bytes × (most_message < length bytes)
IsSaid bytes message.OpCode = IsFramed bytes × HasOtherCode bytes
IsSaid bytes (message.Flags bit) = IsFramed bytes × IsLeastUnknown bit bytes
IsSaid bytes message.Memory = ⊥
IsSaid bytes contents = IsFramed bytes × (HasOtherCode bytes → ⊥)
