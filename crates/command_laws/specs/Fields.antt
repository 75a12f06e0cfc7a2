-- Messages beside one another that differ in one field, and the fields that a command takes no
-- notice of.
use Rattle.std.specs.Prelude.{ℕ, ◌&&◌, Bool, true, false, not, List, [], ◌∷◌, map, Option, Some}
use Rattle.std.specs.Prelude.{codes}
use Rattle.std.specs.Str.{bytes_eq}
use Rattle.bson_core.specs.declared.value.Value.{Value}
use Rattle.bson_core.specs.declared.value.Value.TheViews as values
use Rattle.bson_core.specs.Fields.{Document}
use Rattle.op_msg.specs.Message.{Sequence}
use Rattle.op_msg.specs.declared.frame.Frame.{Frame}
use Rattle.command_parse.specs.declared.command.Command.{Command}
use Rattle.command_parse.specs.declared.command.Command.TheVariants as command
use Rattle.command_parse.specs.declared.command.Statement.TheVariants as statement
use Rattle.command_parse.specs.declared.rules.Rule.{Rule}
use Rattle.command_parse.specs.declared.rules.Rule.TheVariants as rule
use Rattle.command_parse.specs.Commands.{rule_of}

-- the names of fields, and of sections
abbrev pub names_of : {A : Type 0} → List (List ℕ × A) → List (List ℕ)
names_of [] = []
names_of (field ∷ fields) = field.0 ∷ names_of fields

-- the message with this body, and with these sections
abbrev pub with_body : Frame → Document → Frame
with_body frame body = record frame { body = body }

abbrev pub with_sections : Frame → List Sequence → Frame
with_sections frame seqs = record frame { seqs = seqs }

-- documents as a value
abbrev pub list_of : List Document → Value
list_of docs = values.List (map (λ doc. values.Doc doc) docs)

-- any value will do there
abbrev pub is_free : Option Rule → Bool
is_free (Some rule.Ignored) = true
is_free other = false

-- a commit's token may be any value, and is read all the same
abbrev pub is_token : Command → List ℕ → Bool
is_token command.Commit name = bytes_eq name (codes "recoveryToken")
is_token other name = false

-- the command takes no notice of a field of that name
abbrev pub is_ignored : Command → List ℕ → Bool
is_ignored c name = is_free (rule_of c name) && not (is_token c name)

-- what every command passes over, and what one passes over besides
abbrev pub free_names : List (List ℕ)
free_names =
    codes "$readPreference" ∷ codes "comment" ∷ codes "maxTimeMS" ∷ codes "apiVersion"
    ∷ codes "apiStrict" ∷ codes "apiDeprecationErrors" ∷ codes "bypassDocumentValidation" ∷ []

abbrev pub own_free_names : Command → List (List ℕ)
own_free_names (command.Statement statement.Insert) = codes "ordered" ∷ []
own_free_names (command.Statement statement.Update) = codes "ordered" ∷ []
own_free_names (command.Statement statement.Delete) = codes "ordered" ∷ []
own_free_names (command.Statement statement.Find) = codes "batchSize" ∷ codes "singleBatch" ∷ []
own_free_names other = []
