-- What is seen of a message from its bytes alone, readable or not: its own number, its form, and
-- whether its sender wants a reply. And the numbers of faults, which are this project's choice, as
-- is which of them close a connection.
use Rattle.std.specs.Prelude.{ℕ, ℤ, pos, ◌==◌, ◌||◌, Bool, true, false, not, List, drop, Option}
use Rattle.std.specs.Prelude.{Some, None}
use Rattle.std.specs.Int.{w32, cast_signed}
use Rattle.bson_core.specs.Reading.{number_at}
use Rattle.op_msg.specs.Message.{has_flag}
use Rattle.op_msg.specs.declared.frame.FrameErr.{FrameErr}
use Rattle.op_msg.specs.declared.frame.FrameErr.TheVariants as fault

-- the message's own number, the second of its header
abbrev pub signed_number : Option (ℕ × List ℕ) → ℤ
signed_number None = pos 0
signed_number (Some number) = cast_signed w32 number.0

unfoldable pub request_id : List ℕ → ℤ
request_id bytes = signed_number (number_at w32 (drop 4 bytes))

-- the fourth number of its header says that it has the older form, OP_QUERY
abbrev pub is_query : Option (ℕ × List ℕ) → Bool
is_query None = false
is_query (Some code) = code.0 == 2004

unfoldable pub is_legacy : List ℕ → Bool
is_legacy bytes = is_query (number_at w32 (drop 12 bytes))

-- the flag moreToCome, bit 1 of those after the header, isn't set; the older form has none
abbrev pub more_is_clear : Option (ℕ × List ℕ) → Bool
more_is_clear None = true
more_is_clear (Some flags) = not (has_flag 1 flags.0)

unfoldable pub wants_reply : List ℕ → Bool
wants_reply bytes = is_legacy bytes || more_is_clear (number_at w32 (drop 16 bytes))

-- the number of a fault
abbrev pub fault_number : FrameErr → ℕ
fault_number fault.Length = 1
fault_number fault.OpCode = 2
fault_number (fault.Flags bit) = 3
fault_number fault.Section = 4
fault_number fault.NoBody = 5
fault_number fault.TwoBodies = 6
fault_number (fault.Bson e) = 7
fault_number fault.TooLarge = 8
fault_number fault.Memory = 9
