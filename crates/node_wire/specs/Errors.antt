-- What a reader of node messages gives, and what a writer does.
use Rattle.std.specs.Prelude.{◌≡◌, ◌<◌, ◌≤◌, ℕ, Bool, true, false, List, ◌++◌, length, Result, Ok}
use Rattle.std.specs.Prelude.{Err}
use Rattle.op_msg.specs.Limits.{most_internal}
use Rattle.outcomes.specs.Outcome as outcome
use Rattle.bson_core.specs.declared.error.BsonErr.{BsonErr}
use Rattle.bson_core.specs.declared.error.BsonErr.TheVariants as document
use Rattle.op_msg.specs.Message.{message}
use Rattle.op_msg.specs.declared.frame.Frame.{Frame}
use Rattle.node_wire.specs.declared.error.WireErr.{WireErr}
use Rattle.node_wire.specs.declared.error.WireErr.TheVariants.{Memory, Field, TooLarge}

-- the error of a document that begins at this place
abbrev pub from_document : ℕ → BsonErr → WireErr
from_document at document.Memory = Memory
from_document at fault = Field at

-- out of memory, which no definition answers
abbrev pub is_memory : WireErr → Bool
is_memory Memory = true
is_memory other = false

-- what a function returned, seen by view, is this, unless memory ran out
abbrev pub Gives : {X Y : Type 0} → (X → Y) → Result X WireErr → Result Y WireErr → Type 0
Gives view result defined = outcome.Gives is_memory view result defined

-- no message has more bytes
abbrev pub most : ℕ
most = most_internal

-- what is made of node messages: this frame, whose message isn't too long; or it would be, or
-- memory ran out
abbrev pub Makes : Frame → Result Frame WireErr → Type 0
Makes frame (Ok made) = (made ≡ frame) × (length (message frame) ≤ most)
Makes frame (Err TooLarge) = most < length (message frame)
Makes frame (Err Memory) = Unit {0}
Makes frame (Err other) = ⊥
