-- Connections of clients. A client's bytes are cut into messages, by the length in front of each; a
-- message is served once the one before it is answered; and bytes that can't be cut close the
-- connection.
use Rattle.std.specs.Prelude.{ℕ, Bool, false, List, [], ◌∷◌, ◌++◌, nat_eq, length, zero, suc}
use Rattle.std.specs.Prelude.{Option, Some, None, unwrap_or, Ok, Err, if◌then◌else◌}
use Rattle.std.specs.List.{find}
use Rattle.op_msg.specs.Limits.{most_message}
use Rattle.op_msg.specs.Stream.{Next, next_of}
use Rattle.op_msg.specs.declared.frame.FrameErr.{FrameErr}
use Rattle.op_msg.specs.declared.frame.FrameErr.TheVariants as fault

-- a connection: the bytes that are no whole message yet, the messages that wait, whether an earlier
-- one is unanswered, and the number of the fault by which its bytes can't go on
pub record Connection : Type 0 where
  pub conn : ℕ
  pub bytes : List ℕ
  pub waiting : List (List ℕ)
  pub busy : Bool
  pub fault : Option ℕ

abbrev pub fresh : ℕ → Connection
fresh conn = record { conn = conn; bytes = []; waiting = []; busy = false; fault = None }

-- the numbers of the faults of messages
abbrev pub fault_number : FrameErr → ℕ
fault_number fault.Length = 1
fault_number fault.OpCode = 2
fault_number (fault.Flags bit) = 3
fault_number fault.Section = 4
fault_number fault.NoBody = 5
fault_number fault.TwoBodies = 6
fault_number (fault.Bson error) = 7
fault_number fault.TooLarge = 8
fault_number fault.Memory = 9

-- The whole messages that a connection's bytes have; each has 16 bytes at least, so that there are
-- fewer than bytes.
abbrev pub cut_by : (Connection → Connection) → Connection → Next → Connection
cut_by again c (Ok (Some message)) =
    again (record c { bytes = message.1; waiting = c.waiting ++ message.0 ∷ [] })
cut_by again c (Ok None) = c
cut_by again c (Err e) = record c { bytes = []; fault = Some (fault_number e) }

abbrev pub cut_times : ℕ → Connection → Connection
cut_times zero c = c
cut_times (suc n) c = cut_by (cut_times n) c (next_of most_message c.bytes)

-- bytes come on it; after a fault they are dropped
abbrev pub fed_by : Option ℕ → Connection → List ℕ → Connection
fed_by None c bytes = cut_times (length (c.bytes ++ bytes)) (record c { bytes = c.bytes ++ bytes })
fed_by (Some number) c bytes = c

unfoldable pub fed : Connection → List ℕ → Connection
fed c bytes = fed_by c.fault c bytes

-- The connections that bytes came on: that of a number, and one that is put at its place, or after
-- the others.

abbrev pub connection_in : List Connection → ℕ → Connection
connection_in connections conn = unwrap_or (find (λ c. nat_eq c.conn conn) connections) (fresh conn)

abbrev pub with_connection : Connection → List Connection → List Connection
with_connection c [] = c ∷ []
with_connection c (other ∷ others) = if nat_eq c.conn other.conn then c ∷ others
    else other ∷ with_connection c others
