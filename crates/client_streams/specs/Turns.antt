-- What is served next on a connection.
use Rattle.std.specs.Prelude.{ℕ, true, false, List, [], ◌∷◌, drop, Option, Some, None}
use Rattle.std.specs.Prelude.{if◌then◌else◌}
use Rattle.client_streams.specs.declared.connection.Turn.{Turn}
use Rattle.client_streams.specs.declared.connection.Turn.TheVariants.{Message, Fault, Nothing}
use Rattle.client_streams.specs.Streams.{Connection}

abbrev pub turn_by : List (List ℕ) → Option ℕ → Turn
turn_by [] None = Nothing
turn_by [] (Some number) = Fault number
turn_by (message ∷ messages) fault = Message

abbrev pub turn_of : Connection → Turn
turn_of c = if c.busy then Nothing else turn_by c.waiting c.fault

-- its first message was taken, and isn't answered
abbrev pub taken_from : Connection → Connection
taken_from c = record c { waiting = drop 1 c.waiting; busy = true }

abbrev pub answered_in : Connection → Connection
answered_in c = record c { busy = false }
