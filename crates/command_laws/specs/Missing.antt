-- When nothing is wrong with a message but that something is missing.
use Rattle.std.specs.Prelude.{◌≡◌, ℕ, false, List, [], ◌∷◌, Option, None, Ok}
use Rattle.op_msg.specs.declared.frame.Frame.{Frame}
use Rattle.command_parse.specs.declared.command.Command.{Command}
use Rattle.command_parse.specs.Checks.{firsts}
use Rattle.command_parse.specs.Operations.{Field, fields_of, field_check}
use Rattle.client_cmd.specs.Commands.{command_in, is_unacknowledged, is_retried, time_ahead}

-- the field isn't refused, though something may be missing in it
abbrev pub IsPassed : Command → Field → Type 0
IsPassed c field = (missing : Option (List ℕ)) × (field_check c field ≡ Ok missing)

abbrev pub ArePassed : Command → List Field → Type 0
ArePassed c [] = Unit {0}
ArePassed c (field ∷ fields) = IsPassed c field × ArePassed c fields

-- the command is known, the sender wants an answer, it is no write to be retried, its times are near, and no field that
-- counts is refused
pub record IsElseRight (wall : ℕ) (frame : Frame) : Type 0 where
  pub command : Command
  pub known : command_in frame ≡ Ok command
  pub answered : is_unacknowledged frame ≡ false
  pub once : is_retried command frame ≡ false
  pub near : time_ahead wall frame.body ≡ None
  pub fields : ArePassed command (firsts (fields_of frame))
