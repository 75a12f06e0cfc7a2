-- The errors of a document as errors of the message that it is in.
use Rattle.std.specs.Prelude.{Bool, true, false, Result}
use Rattle.outcomes.specs.Outcome as outcome
use Rattle.bson_core.specs.declared.error.BsonErr.{BsonErr}
use Rattle.bson_core.specs.declared.error.BsonErr.TheVariants as document
use Rattle.op_msg.specs.declared.frame.FrameErr.{FrameErr}
use Rattle.op_msg.specs.declared.frame.FrameErr.TheVariants.{Bson, Section, Memory}

abbrev pub from_document : BsonErr → FrameErr
from_document document.Memory = Memory
from_document fault = Bson fault

-- a name that isn't one is a fault of its section
abbrev pub from_name : BsonErr → FrameErr
from_name document.Memory = Memory
from_name fault = Section

-- out of memory, which no definition answers
abbrev pub is_memory : FrameErr → Bool
is_memory Memory = true
is_memory other = false

-- what a function returned, seen by view, is this, unless memory ran out
abbrev pub Gives : {X Y : Type 0} → (X → Y) → Result X FrameErr → Result Y FrameErr → Type 0
Gives view result defined = outcome.Gives is_memory view result defined
