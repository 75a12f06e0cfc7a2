-- Messages in a stream of bytes, which comes in pieces. By the OP_MSG page of the MongoDB wire
-- protocol a message begins with its own length, an int32 whose lowest byte comes first. A length
-- counts the 16 bytes of the header too, so that none is below 16; and from 2 ^ 31 on four bytes
-- are a negative int32.
use Rattle.std.specs.Prelude.{◌^◌, ◌≤◌, ℕ, List, [], ◌∷◌, ◌++◌, length, take, drop, Option, Some}
use Rattle.std.specs.Prelude.{None, Result, Ok, Err, nat_lt, nat_le, IsSome, IsOkAnd, ◌||◌}
use Rattle.std.specs.Prelude.{if◌then◌else◌}
use Rattle.std.specs.Int.{w32}
use Rattle.bson_core.specs.Reading.{number_at}
use Rattle.op_msg.specs.declared.frame.Frame.{Frame}
use Rattle.op_msg.specs.declared.frame.FrameErr.{FrameErr}
use Rattle.op_msg.specs.declared.frame.FrameErr.TheVariants.{Length, TooLarge}
use Rattle.op_msg.specs.Message.{IsMessage}

-- a feeder: the bytes that came and weren't given yet, and the length of the longest message that
-- is given
pub record Stream : Type 0 where
  pub held : List ℕ
  pub limit : ℕ

-- the length of the message that the bytes begin with, where they hold all of it; a length that
-- isn't one is refused
abbrev pub length_by : ℕ → List ℕ → Option (ℕ × List ℕ) → Result (Option ℕ) FrameErr
length_by limit held None = Ok None
length_by limit held (Some number) =
    if nat_lt number.0 16 || nat_le (2 ^ 31) number.0 then Err Length else
    (if nat_lt limit number.0 then Err TooLarge else
    (if nat_lt (length held) number.0 then Ok None else Ok (Some number.0)))

unfoldable pub length_of : ℕ → List ℕ → Result (Option ℕ) FrameErr
length_of limit held = length_by limit held (number_at w32 held)

-- what comes next: a message and the bytes after it, nothing yet, or a refusal
abbrev pub Next : Type 0
Next = Result (Option (List ℕ × List ℕ)) FrameErr

abbrev pub next_by : List ℕ → Result (Option ℕ) FrameErr → Next
next_by held (Ok (Some len)) = Ok (Some (take len held, drop len held))
next_by held (Ok None) = Ok None
next_by held (Err e) = Err e

abbrev pub next_of : ℕ → List ℕ → Next
next_of limit held = next_by held (length_of limit held)

-- a message is what comes next
abbrev pub GivesMessage : Next → Type 0
GivesMessage next = IsOkAnd next (λ message. IsSome message)

-- Runs of calls: a piece is fed, or the next message is taken. A call that runs out of memory
-- changes nothing, so it is no step.
pub data Step : Type 0 where
  Feed : List ℕ → Step
  Take : Step

-- the messages that were given, in their order, and the bytes that are held still
abbrev pub Cut : Type 0
Cut = List (List ℕ) × List ℕ

-- what taking the next message gives, and what is then held
abbrev pub taken_by : List ℕ → Next → Cut
taken_by held (Ok (Some message)) = (message.0 ∷ [], message.1)
taken_by held (Ok None) = ([], held)
taken_by held (Err e) = ([], held)

-- a run after these messages
abbrev pub behind : List (List ℕ) → Cut → Cut
behind messages cut = (messages ++ cut.0, cut.1)

-- what the steps give in the end, from these held bytes on
abbrev pub run : ℕ → List ℕ → List Step → Cut
run limit held [] = ([], held)
run limit held (Feed piece ∷ steps) = run limit (held ++ piece) steps
run limit held (Take ∷ steps) =
    let taken = taken_by held (next_of limit held) in
    behind taken.0 (run limit taken.1 steps)

-- the pieces that were fed, joined
abbrev pub fed : List Step → List ℕ
fed [] = []
fed (Feed piece ∷ steps) = piece ++ fed steps
fed (Take ∷ steps) = fed steps

-- the bytes are those of a message that isn't longer than the limit
pub record IsMessageWithin (limit : ℕ) (bytes : List ℕ) : Type 0 where
  pub frame : Frame
  pub is : IsMessage bytes frame
  pub within : length bytes ≤ limit
