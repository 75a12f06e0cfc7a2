-- What the bytes of a client's message ask. Which faults close a connection is this project's
-- choice, as are the numbers of faults.
use Rattle.std.specs.Prelude.{ℕ, Bool, true, false, List, Result, Ok, Err}
use Rattle.outcomes.specs.Outcome as outcome
use Rattle.bson_core.specs.declared.error.BsonErr.TheVariants as document
use Rattle.op_msg.specs.Reading.{frame_of}
use Rattle.op_msg.specs.declared.frame.Frame.{Frame}
use Rattle.op_msg.specs.declared.frame.FrameErr.{FrameErr}
use Rattle.op_msg.specs.declared.frame.FrameErr.TheVariants as fault
use Rattle.crud_parse.specs.declared.error.CrudErr.TheVariants as parsing
use Rattle.client_cmd.specs.Commands.{request_of}
use Rattle.client_cmd.specs.declared.error.CmdErr.{CmdErr}
use Rattle.client_cmd.specs.declared.error.CmdErr.TheVariants as command
use Rattle.client_cmd.specs.declared.request.Request.{Request}
use Rattle.client_reply.specs.declared.reply.Refusal.TheVariants as refusal
use Rattle.router_plan.specs.declared.message.Unserved.{Unserved}
use Rattle.router_plan.specs.declared.message.Unserved.TheVariants.{Told, Closed, Memory}

-- bytes of a wrong length, and of another operation, close their connection; of every other fault
-- their sender is told
abbrev pub from_message : FrameErr → Unserved
from_message fault.Length = Closed 1
from_message fault.OpCode = Closed 2
from_message fault.TooLarge = Closed 8
from_message (fault.Bson (document.Kind at byte)) = Told (refusal.BadKind byte at)
from_message (fault.Flags bit) = Told (refusal.BadMessage 3)
from_message fault.Section = Told (refusal.BadMessage 4)
from_message fault.NoBody = Told (refusal.BadMessage 5)
from_message fault.TwoBodies = Told (refusal.BadMessage 6)
from_message (fault.Bson other) = Told (refusal.BadMessage 7)
from_message fault.Memory = Memory

abbrev pub from_command : CmdErr → Unserved
from_command (command.Unknown name) = Told (refusal.Unknown name)
from_command command.Unacknowledged = Told refusal.Unacknowledged
from_command command.RetryWrite = Told refusal.RetryWrite
from_command (command.ClusterTimeAhead secs wall) = Told (refusal.ClusterTimeAhead secs wall)
from_command (command.Parse (parsing.UnknownOperator name)) = Told (refusal.UnknownOperator name)
from_command (command.Parse (parsing.DottedName name)) = Told (refusal.DottedName name)
from_command (command.Parse (parsing.WrongKind name)) = Told (refusal.WrongKind name)
from_command (command.Parse (parsing.Missing name)) = Told (refusal.Missing name)
from_command (command.Parse (parsing.UnknownField name)) = Told (refusal.UnknownField name)
from_command (command.Parse parsing.Memory) = Memory
from_command command.Memory = Memory

abbrev pub asked_by : Result Request CmdErr → Result Request Unserved
asked_by (Ok request) = Ok request
asked_by (Err error) = Err (from_command error)

abbrev pub read_by : ℕ → Result Frame FrameErr → Result Request Unserved
read_by wall (Ok frame) = asked_by (request_of wall frame)
read_by wall (Err error) = Err (from_message error)

-- what a message asks, at this wall
unfoldable pub asked_in : ℕ → List ℕ → Result Request Unserved
asked_in wall bytes = read_by wall (frame_of bytes)

-- out of memory, which no definition answers
abbrev pub is_memory : Unserved → Bool
is_memory Memory = true
is_memory other = false

-- the result is what is defined, or there was no memory
abbrev pub Gives : {X Y : Type 0} → (X → Y) → Result X Unserved → Result Y Unserved → Type 0
Gives view result defined = outcome.Gives is_memory view result defined
